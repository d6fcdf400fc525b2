use Rattle.std.proofs.Common.{◌≡◌, ◌++◌, filter, take}
use Rattle.resolvo_proof.specs.Order.{is_earlier}
use Rattle.resolvo_proof.proofs.rules.stack_causes.Given as goal

abbrev pub invariant-loop-cause : goal.invariant-loop-cause
invariant-loop-cause l = l.stack.items ≡ l.initial.stack.items ++ filter (is_earlier l.place) (take l.cause-index l.causes)
