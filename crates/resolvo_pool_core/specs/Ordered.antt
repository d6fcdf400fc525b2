-- Values in the order in which they were inserted, each found by a number.
use Rattle.std.specs.Prelude.{◌≡◌, ◌⊎◌, ℕ, zero, suc, Bool, List, Option, None, Some, slice_get, slice_index_or, refl}
use Rattle.std.specs.Map.{lookup}

-- the values
pub record Ordered (X : Type 0) : Type 0 where
  pub keys : List X

-- the place of the value, or it isn't in the list
abbrev pub IsPlace : {X : Type 0} → List X → X → Option ℕ → Type 0
IsPlace xs x None = (k : ℕ) → slice_get xs k ≡ Some x → ⊥
IsPlace xs x (Some k) = slice_get xs k ≡ Some x

-- the number of each value is its place
abbrev pub ArePlaced : {X : Type 0} → (X → Option ℕ) → List X → Type 0
ArePlaced {X} number xs = (x : X) → IsPlace xs x (number x)

-- one less, or none for 0
abbrev pub less_one : ℕ → Option ℕ
less_one zero = None
less_one (suc n) = Some n

-- one more, or 0 for none
abbrev pub one_more : Option ℕ → ℕ
one_more None = zero
one_more (Some n) = suc n

pub one_more-less_one : (n : ℕ) → one_more (less_one n) ≡ n
one_more-less_one zero = refl
one_more-less_one (suc n) = refl

module _ {K : Type 0} (indexed : K → Option ℕ) (eq : K → K → Bool) (places : List ℕ) (others : List (K × ℕ)) where
  -- the number at an index, or that of the value's hash
  abbrev pub number_by : Option ℕ → K → Option ℕ
  number_by None k = lookup (eq k) others
  number_by (Some i) k = less_one (slice_index_or places i 0)

  -- the number of a value
  abbrev pub number_of : K → Option ℕ
  number_of k = number_by (indexed k) k

-- the value has the number, and each other one has the one that it had
abbrev pub SetsNumber : {K : Type 0} → K → ℕ → (K → Option ℕ) → (K → Option ℕ) → Type 0
SetsNumber {K} k place old new = (y : K) → ((y ≡ k) × (new y ≡ Some place)) ⊎ ((y ≡ k → ⊥) × (new y ≡ old y))

-- the same of a map
abbrev pub SetsPlace : {K : Type 0} → (K → K → Bool) → K → ℕ → List (K × ℕ) → List (K × ℕ) → Type 0
SetsPlace eq k place old new = SetsNumber k place (λ y. lookup (eq y) old) (λ y. lookup (eq y) new)
