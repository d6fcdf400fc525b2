use Rattle.std.proofs.Common.{◌≡◌, ◌<◌, ℕ, Some}
use Rattle.std.specs.Prelude.{slice_get}
use Rattle.resolvo_terms.proofs.terms.lengthen.Given as goal

abbrev pub invariant-loop : goal.invariant-loop
invariant-loop l = (n k : ℕ) → slice_get l.numbers.items n ≡ Some k → k < 4294967295 → slice_get l.initial.numbers.items n ≡ Some k
