use Rattle.std.proofs.Common.{◌≡◌, ◌++◌, map, take}
use Rattle.resolvo_proof.specs.declared.link.Link.TheVariants.{Constrains}
use Rattle.resolvo_proof.proofs.link_rules.link_outside.Given as goal

abbrev pub invariant-loop-parent : goal.invariant-loop-parent
invariant-loop-parent g l = l.links.items ≡ l.initial.links.items ++ map (λ parent. Constrains parent l.version_set l.solvable) (take l.parent-index l.parents)
