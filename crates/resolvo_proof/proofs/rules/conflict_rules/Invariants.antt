use Rattle.std.proofs.Common.{◌+◌, length}
use Rattle.resolvo_proof.proofs.OrderLemmas.{left}
use Rattle.resolvo_proof.proofs.OrderWalk.{IsWalk}
use Rattle.resolvo_proof.proofs.rules.conflict_rules.Given as goal

abbrev pub invariant-loop-place : goal.invariant-loop-place
invariant-loop-place g l = IsWalk l.steps l.stack.items l.seen.items l.order.items

-- a step stacks its causes once
abbrev pub decreases-loop-place : goal.decreases-loop-place
decreases-loop-place g l = left l.steps l.seen.items + length l.stack.items
