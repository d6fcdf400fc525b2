use Rattle.std.proofs.Common.{◌≡◌, ℕ, ◌<◌, ◌≤◌, true, Some}
use Rattle.std.specs.Prelude.{slice_get}
use Rattle.resolvo_store_core.specs.Signed.{value_under, is_false}
use Rattle.resolvo_store_core.specs.Values.{value_at}
use Rattle.resolvo_store_core.specs.declared.lists.Candidate.{Candidate}
use Rattle.resolvo_decide.proofs.candidate_counts.first_not_false.Given as goal

-- the candidates so far are false
abbrev pub invariant-loop-place : goal.invariant-loop-place
invariant-loop-place g l = (p : ℕ) → l.from ≤ p → p < l.place → (c : Candidate g.row.N.Denot) → slice_get l.candidates p ≡ Some c → is_false (value_under (value_at l.values) c.literal) ≡ true
