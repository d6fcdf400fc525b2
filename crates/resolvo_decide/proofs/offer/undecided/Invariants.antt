use Rattle.std.proofs.Common.{◌≡◌, ◌+◌, ◌≤◌, drop}
use Rattle.std.specs.List.{find, count_by, list_any}
use Rattle.resolvo_store_core.specs.Signed.{value_under, is_true, is_open}
use Rattle.resolvo_store_core.specs.Values.{value_at}
use Rattle.resolvo_decide.proofs.OfferLemmas.{first_of}
use Rattle.resolvo_decide.proofs.offer.undecided.Given as goal

-- the answer for the remaining candidates is that for all
abbrev pub invariant-loop-candidate : goal.invariant-loop-candidate
invariant-loop-candidate g l = record {
  none : list_any (λ c. is_true (value_under (value_at l.values) c.literal)) l.candidates ≡ list_any (λ c. is_true (value_under (value_at l.values) c.literal)) (drop l.candidate-index l.candidates);
  first : find (λ c. is_open (value_under (value_at l.values) c.literal)) l.candidates ≡ first_of l.first (find (λ c. is_open (value_under (value_at l.values) c.literal)) (drop l.candidate-index l.candidates));
  count : count_by (λ c. is_open (value_under (value_at l.values) c.literal)) l.candidates ≡ l.count + count_by (λ c. is_open (value_under (value_at l.values) c.literal)) (drop l.candidate-index l.candidates);
  few : l.count ≤ l.candidate-index;
}
