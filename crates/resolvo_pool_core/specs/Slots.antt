-- Slots by index, some of which hold a value.
use Rattle.std.specs.Prelude.{◌≡◌, ℕ, ◌+◌, List, [], ◌∷◌, Option, None, Some, slice_index_or, max, min, ◌*◌, ◌/◌}

-- the value at the index i
abbrev pub at : {V : Type 0} → List (Option V) → ℕ → Option V
at xs i = slice_index_or xs i None

-- the pairs of indexes, from i on, and values
abbrev pub pairs_from : {V : Type 0} → ℕ → List (Option V) → List (ℕ × V)
pairs_from i [] = []
pairs_from i (None ∷ xs) = pairs_from (i + 1) xs
pairs_from i (Some v ∷ xs) = (i, v) ∷ pairs_from (i + 1) xs

-- ys is xs with o at i, and no other value than those of xs
abbrev pub PutsSlot : {V : Type 0} → List (Option V) → List (Option V) → ℕ → Option V → Type 0
PutsSlot xs ys i o = (at ys i ≡ o) × ((j : ℕ) → (j ≡ i → ⊥) → at ys j ≡ at xs j)

-- 1 where there is a value
abbrev pub filled : {V : Type 0} → Option V → ℕ
filled None = 0
filled (Some v) = 1

-- how many slots there are once the index i has one: those before, or whole chunks, and never more than there are indexes
abbrev pub slots_with : ℕ → ℕ → ℕ
slots_with len i = max (min (128 * (i / 128 + 1)) 4294967295) len
