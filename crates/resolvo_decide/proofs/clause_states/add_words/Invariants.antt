use Rattle.std.proofs.Common.{◌≡◌, ℕ, ◌+◌, ◌-◌, ◌/◌, length}
use Rattle.resolvo_decide.specs.States.{bit_of}
use Rattle.resolvo_decide.proofs.clause_states.add_words.Given as goal

-- the words so far mark nothing new
abbrev pub invariant-loop-marks : goal.invariant-loop-marks
invariant-loop-marks l = (i : ℕ) → bit_of l.marks.items i ≡ bit_of l.initial.marks.items i

abbrev pub decreases-loop-marks : goal.decreases-loop-marks
decreases-loop-marks l = (l.count / 64 + 1) - length l.marks.items
