-- Lists one after the other in one list, by where each ends.
use Rattle.std.specs.Prelude.{◌≡◌, ℕ, ◌≤◌, List, [], ◌∷◌, length}
use Rattle.std.specs.List.{slice_range}

-- the lists that end so; the first of them begins here
abbrev pub lists_from : {T : Type 0} → List T → ℕ → List ℕ → List (List T)
lists_from items b [] = []
lists_from items b (e ∷ ends) = slice_range items b e ∷ lists_from items e ends

abbrev pub lists_in : {T : Type 0} → List T → List ℕ → List (List T)
lists_in items ends = lists_from items 0 ends

-- the ends rise from this one up to that of a list of this length
abbrev pub AreRising : ℕ → ℕ → List ℕ → Type 0
AreRising long b [] = b ≡ long
AreRising long b (e ∷ ends) = (b ≤ e) × AreRising long e ends

-- the lists of these ends fill the items; a number counts both
pub record AreEnds {T : Type 0} (items : List T) (ends : List ℕ) : Type 0 where
  pub few : length items ≤ 4294967295
  pub counted : length ends ≤ 4294967295
  pub rising : AreRising (length items) 0 ends
