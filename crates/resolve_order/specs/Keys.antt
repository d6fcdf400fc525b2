-- Keys by numbers, as the code keeps them.
use Rattle.std.specs.Prelude.{◌≡◌, ℕ, zero, suc, ◌<◌, Bool, true, false, List, Option, Some, None, slice_index_or}
use Rattle.resolve_order.specs.declared.key_places.KeyPlaces.{KeyPlaces}
use Rattle.resolve_order.specs.declared.key_places.KeyPlaces.TheVariants.{Narrow, Wide}

-- the number before this one, if there is one
abbrev pub before : ℕ → Option ℕ
before zero = None
before (suc n) = Some n

-- the numbers by keys
abbrev pub places_of : KeyPlaces → List ℕ
places_of (Narrow numbers) = numbers.items
places_of (Wide numbers) = numbers.items

-- whether there is room for long numbers
abbrev pub is_wide : KeyPlaces → Bool
is_wide (Narrow _) = false
is_wide (Wide _) = true

-- the number of key k, if it has one
abbrev pub number_of : List ℕ → ℕ → Option ℕ
number_of places k = before (slice_index_or places k 0)

-- Each number is below the count, and is that of one key.
pub record AreKeys (places : List ℕ) (count : ℕ) : Type 0 where
  pub below : (k n : ℕ) → number_of places k ≡ Some n → n < count
  pub once : (j k n : ℕ) → number_of places j ≡ Some n → number_of places k ≡ Some n → j ≡ k
