-- The version sets of all versions of packages, by the packages' numbers.
use Rattle.std.proofs.Common.{◌≡◌, ◌<◌, ◌∷◌, ◌++◌, [], ℕ, List, Some, inl, inr, subst, arith}
use Rattle.std.specs.Prelude.{slice_get}
use Rattle.resolvo_terms.specs.declared.terms.Numbers.{Numbers}
use Rattle.resolvo_terms.specs.Terms.{NameId, Extends}
use Rattle.resolvo_terms.specs.Found.{AreWholes}
use Rattle.resolvo_terms.proofs.Places.{get_push}

pub wholes_none : (ns : List ℕ) (sets : List (NameId × Numbers)) → ns ≡ [] → AreWholes ns sets
wholes_none ns sets none n k e less = let nowhere : slice_get [] n ≡ Some k = subst (λ (xs : List ℕ). slice_get xs n ≡ Some k) none e in absurd cc

-- more sets
pub wholes_stay : (ns : List ℕ) (old new : List (NameId × Numbers)) → Extends old new → AreWholes ns old → AreWholes ns new
wholes_stay ns old new more h n k e less = more k _ (h n k e less)

-- a place more, without a number
pub among_more : (old ns : List ℕ) → ((n k : ℕ) → slice_get ns n ≡ Some k → k < 4294967295 → slice_get old n ≡ Some k) → (n k : ℕ) → slice_get (ns ++ 4294967295 ∷ []) n ≡ Some k → k < 4294967295 → slice_get old n ≡ Some k
among_more old ns h n k e less = elim (get_push ns 4294967295 k n e) [ inl had ↦ h n k had less | inr last ↦ absurd (omega (arith, last.1, less)) ]
