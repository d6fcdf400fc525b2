use Rattle.std.proofs.Common.{◌≡◌, take}
use Rattle.resolvo_proof.specs.Order.{requirements_in, rules_at}
use Rattle.resolvo_proof.proofs.rules.name_each.Given as goal

abbrev pub invariant-loop-place : goal.invariant-loop-place
invariant-loop-place g l = l.named.keys ≡ requirements_in (rules_at l.steps (take l.place-index l.places))
