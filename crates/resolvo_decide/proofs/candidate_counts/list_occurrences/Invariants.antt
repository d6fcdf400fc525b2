use Rattle.std.proofs.Common.{◌≡◌, ℕ, ◌++◌, drop}
use Rattle.resolvo_store_core.specs.Clauses.{candidate_literals}
use Rattle.resolvo_decide.specs.CandidateCounts.{occurrences_at, occurrences_of}
use Rattle.resolvo_decide.proofs.candidate_counts.list_occurrences.Given as goal

-- the occurrences of the remaining candidates are left to list
abbrev pub invariant-loop-place : goal.invariant-loop-place
invariant-loop-place g l = (index : ℕ) → occurrences_at l.occurrences.items index ++ occurrences_of l.count l.place (candidate_literals (drop l.place l.candidates)) index ≡ occurrences_at l.initial.occurrences.items index ++ occurrences_of l.count 0 (candidate_literals l.candidates) index
