use Rattle.std.proofs.Common.{length}
use Rattle.resolvo_proof.proofs.NumberLemmas.{AreKept}
use Rattle.resolvo_proof.proofs.trim.trim_to.Given as goal

-- the flagged ones of the steps so far are kept
abbrev pub invariant-loop-step : goal.invariant-loop-step
invariant-loop-step g l = AreKept l.fn.steps.items l.leading.items (length l.yielded) l.numbers.items l.kept.items
