use Rattle.std.proofs.Common.{◌≡◌, ◌+◌, ◌≤◌, drop}
use Rattle.std.specs.List.{count_by}
use Rattle.resolvo_store_core.specs.Signed.{value_under, is_true, is_false}
use Rattle.resolvo_store_core.specs.Values.{value_at}
use Rattle.resolvo_decide.proofs.candidate_counts.count_of.Given as goal

-- the counts of the remaining candidates are left to add
abbrev pub invariant-loop-candidate : goal.invariant-loop-candidate
invariant-loop-candidate g l = record {
  trues : count_by (λ c. is_true (value_under (value_at l.values) c.literal)) l.candidates ≡ l.trues + count_by (λ c. is_true (value_under (value_at l.values) c.literal)) (drop l.candidate-index l.candidates);
  falses : count_by (λ c. is_false (value_under (value_at l.values) c.literal)) l.candidates ≡ l.falses + count_by (λ c. is_false (value_under (value_at l.values) c.literal)) (drop l.candidate-index l.candidates);
  few : l.trues ≤ l.candidate-index;
  fewer : l.falses ≤ l.candidate-index;
}
