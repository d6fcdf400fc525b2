use Rattle.std.proofs.Common.{◌≡◌, ℕ, length, drop}
use Rattle.std.specs.Prelude.{slice_get}
use Rattle.std.specs.Option.{option_map}
use Rattle.resolvo_decide.specs.CandidateCounts.{changed_each}
use Rattle.resolvo_decide.proofs.candidate_counts.change_each.Given as goal

-- the occurrences that are left change the counts so far as all do the first ones
abbrev pub invariant-loop-one : goal.invariant-loop-one
invariant-loop-one l = record {
  each : (k : ℕ) → option_map (changed_each l.change k (drop l.one-index l.occurrences)) (slice_get l.counts k) ≡ option_map (changed_each l.change k l.occurrences) (slice_get l.initial.counts k);
  len : length l.counts ≡ length l.initial.counts;
}
