-- The numbers of keys. A key is a list of numbers.
use Rattle.std.specs.Prelude.{◌≡◌, ℕ, ◌<◌, List, Option, Some}
use Rattle.std.specs.Global.{Vec}
use Rattle.std.specs.Map.{lookup}
use Rattle.std.specs.Ordering.{is_eq, nat_cmp}
use Rattle.std.specs.Cmp.Lexicographic.{slice_cmp}

-- the number of a key, found by the order of the keys
abbrev pub number_in : List (Vec ℕ × ℕ) → List ℕ → Option ℕ
number_in entries key = lookup (λ k. is_eq (slice_cmp nat_cmp key k.items)) entries

-- no two keys have one number, and each is below the count
pub record AreNumbers (entries : List (Vec ℕ × ℕ)) (count : ℕ) : Type 0 where
  pub apart : (a b : List ℕ) (i : ℕ) → number_in entries a ≡ Some i → number_in entries b ≡ Some i → a ≡ b
  pub below : (a : List ℕ) (i : ℕ) → number_in entries a ≡ Some i → i < count

-- the numbers that were given stay
abbrev pub Keeps : List (Vec ℕ × ℕ) → List (Vec ℕ × ℕ) → Type 0
Keeps old new = (a : List ℕ) (i : ℕ) → number_in old a ≡ Some i → number_in new a ≡ Some i
