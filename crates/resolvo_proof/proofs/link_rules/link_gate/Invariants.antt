use Rattle.std.proofs.Common.{◌≡◌, ◌++◌, take, Some}
use Rattle.std.specs.List.{flat_map}
use Rattle.resolvo_proof.specs.Offered.{offered_by}
use Rattle.resolvo_proof.specs.LinkRules.{needed}
use Rattle.resolvo_proof.proofs.link_rules.link_gate.Given as goal

abbrev pub invariant-loop-parent : goal.invariant-loop-parent
invariant-loop-parent g l = l.links.items ≡ l.initial.links.items ++ flat_map (λ s. needed (Some s) l.requirement (offered_by l.offers l.requirement)) (take l.parent-index l.parents)
