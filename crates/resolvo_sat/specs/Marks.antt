-- Marks of variables by the numbers of walks.
use Rattle.std.specs.Prelude.{◌≡◌, ℕ, ◌≤◌, ◌==◌, Bool, true, false, cond, List, [], ◌∷◌, slice_index_or}

-- which of the variables this walk marked
abbrev pub flags : ℕ → List ℕ → List Bool
flags walk [] = []
flags walk (k ∷ ks) = (k == walk) ∷ flags walk ks

-- no number is above this one
abbrev pub AreUpTo : ℕ → List ℕ → Type 0
AreUpTo walk [] = Unit {0}
AreUpTo walk (k ∷ ks) = (k ≤ walk) × AreUpTo walk ks

-- no variable is marked
abbrev pub AreNone : List Bool → Type 0
AreNone seen = (v : ℕ) → slice_index_or seen v false ≡ false

-- the same variables are marked
abbrev pub AreSame : List Bool → List Bool → Type 0
AreSame old new = (v : ℕ) → slice_index_or new v false ≡ slice_index_or old v false

-- one more variable is marked
abbrev pub IsMarked : ℕ → List Bool → List Bool → Type 0
IsMarked index old new = (v : ℕ) → slice_index_or new v false ≡ cond (index == v) true (slice_index_or old v false)
