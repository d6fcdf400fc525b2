use Rattle.std.proofs.Common.{◌≡◌, ◌++◌, map, take}
use Rattle.resolvo_proof.specs.declared.link.Link.TheVariants.{Constrains}
use Rattle.resolvo_proof.proofs.link_rules.link_limit.Given as goal

abbrev pub invariant-loop-solvable : goal.invariant-loop-solvable
invariant-loop-solvable g l = l.links.items ≡ l.initial.links.items ++ map (λ s. Constrains l.parent l.version_set s) (take l.solvable-index l.outsides)
