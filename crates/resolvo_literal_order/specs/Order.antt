-- When the texts of a clause's literals are in order.
use Rattle.std.specs.Prelude.{ℕ, Bool, true, not, ◌&&◌, if◌then◌else◌, List, [], ◌∷◌, take, drop, map, codes}
use Rattle.std.proofs.Common.{Bor}
use Rattle.std.specs.List.{list_any}
use Rattle.std.specs.Str.{bytes_eq}
use Rattle.std.specs.Ordering.{is_lt, nat_cmp}
use Rattle.std.specs.Cmp.Lexicographic.{slice_cmp}

-- the texts behind references
abbrev pub texts_of : List (Bor (List ℕ)) → List (List ℕ)
texts_of ts = map (λ t. t.now) ts

-- one text precedes another in byte order
abbrev pub is_before : List ℕ → List ℕ → Bool
is_before x y = is_lt (slice_cmp nat_cmp x y)

abbrev pub begins_after : List ℕ → List (List ℕ) → Bool
begins_after x [] = true
begins_after x (y ∷ ys) = is_before x y

-- each text precedes the next one
abbrev pub are_rising : List (List ℕ) → Bool
are_rising [] = true
are_rising (x ∷ xs) = begins_after x xs && are_rising xs

-- no text is there twice
abbrev pub are_once : List (List ℕ) → Bool
are_once [] = true
are_once (x ∷ xs) = not (list_any (λ y. bytes_eq y x) xs) && are_once xs

-- the text of the atom in a literal's text
abbrev pub atom_part : List ℕ → List ℕ
atom_part text = if bytes_eq (take 4 text) (codes "not ") then drop 4 text else text

-- the texts of literals are in byte order, and no atom is there twice
abbrev pub are_in_order : List (List ℕ) → Bool
are_in_order texts = are_rising texts && are_once (map atom_part texts)
