-- Lists that are kept one after the other in one list.
use Rattle.std.specs.Prelude.{◌≡◌, ℕ, zero, suc, ◌≤◌, List, [], ◌∷◌, slice_index_or}
use Rattle.std.specs.List.{slice_range}

-- the list of number k, if there is one
abbrev pub kept_of : List (List ℕ) → ℕ → List ℕ
kept_of lists k = slice_index_or lists k []

-- the lists that end here, the first of which begins at b
abbrev pub lists_from : List ℕ → ℕ → List ℕ → List (List ℕ)
lists_from xs b [] = []
lists_from xs b (e ∷ ends) = slice_range xs b e ∷ lists_from xs e ends

-- where the list of number k begins
abbrev pub begin_of : ℕ → List ℕ → ℕ → ℕ
begin_of b ends zero = b
begin_of b ends (suc k) = slice_index_or ends k b

-- Each list ends where it begins or later, and the last one at this count.
abbrev pub AreEnds : ℕ → List ℕ → ℕ → Type 0
AreEnds b [] count = b ≡ count
AreEnds b (e ∷ ends) count = (b ≤ e) × AreEnds e ends count
