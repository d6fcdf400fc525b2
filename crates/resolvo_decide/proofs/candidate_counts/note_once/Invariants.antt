use Rattle.std.proofs.Common.{◌≡◌, ℕ, ◌-◌, length}
use Rattle.resolvo_decide.specs.CandidateCounts.{number_at}
use Rattle.resolvo_decide.proofs.candidate_counts.note_once.Given as goal

-- no clause has another count
abbrev pub invariant-loop-count_states : goal.invariant-loop-count_states
invariant-loop-count_states l = (i : ℕ) → number_at l.count_states.items i ≡ number_at l.initial.count_states.items i

abbrev pub decreases-loop-count_states : goal.decreases-loop-count_states
decreases-loop-count_states l = l.position - length l.count_states.items
