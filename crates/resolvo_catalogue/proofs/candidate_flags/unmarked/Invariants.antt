use Rattle.std.proofs.Common.{◌≡◌, ℕ, Some, None, false, length}
use Rattle.std.specs.Prelude.{slice_get}
use Rattle.resolvo_catalogue.specs.declared.candidate_flags.CandidateFlags.{CandidateFlags}
use Rattle.resolvo_catalogue.proofs.candidate_flags.unmarked.Given as goal

abbrev pub invariant-loop : goal.invariant-loop
invariant-loop l = (length l.marks.items ≡ l.counter) × ((k : ℕ) (m : CandidateFlags) → slice_get l.marks.items k ≡ Some m → m ≡ record { locked = false; favored = false; excluded = None; line = 0 })
