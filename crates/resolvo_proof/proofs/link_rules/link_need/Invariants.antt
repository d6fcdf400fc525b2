use Rattle.std.proofs.Common.{◌≡◌, ◌++◌, map, take, Some}
use Rattle.resolvo_proof.specs.declared.link.Link.TheVariants.{Requires}
use Rattle.resolvo_proof.proofs.link_rules.link_need.Given as goal

abbrev pub invariant-loop-candidate : goal.invariant-loop-candidate
invariant-loop-candidate g l = l.links.items ≡ l.initial.links.items ++ map (λ s. Requires l.parent l.requirement (Some s)) (take l.candidate-index l.candidates)
