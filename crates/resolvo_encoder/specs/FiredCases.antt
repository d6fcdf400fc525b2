-- How the places of the encoded cases are flagged.
use Rattle.std.specs.Prelude.{ℕ, Bool, false, List, slice_index_or, Contains}
use Rattle.std.specs.Bool.{Decides}

-- the places with a flag are those of the list
abbrev pub AreFlagged : List Bool → List ℕ → Type 0
AreFlagged flags places = (i : ℕ) → Decides (slice_index_or flags i false) (Contains places i)
