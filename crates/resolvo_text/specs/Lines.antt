-- The lines of a text.
use Rattle.std.specs.Prelude.{ℕ, Bool, List, [], ◌∷◌, ◌==◌, if◌then◌else◌, count_by, take}
use Rattle.std.specs.List.{onto_first}

-- A line ends at byte 10, which isn't part of it. The last newline may be absent. An empty text has no
-- line, and nothing follows a final newline.
abbrev pub lines_of : List ℕ → List (List ℕ)
lines_of [] = []
lines_of (b ∷ bs) = if b == 10 then [] ∷ lines_of bs else onto_first b (lines_of bs)

abbrev pub is_newline : ℕ → Bool
is_newline b = b == 10

abbrev pub newlines : List ℕ → ℕ
newlines bytes = count_by is_newline bytes

-- The lines of the text that end among the bytes read, a prefix of the text.
abbrev pub whole_lines : List ℕ → List ℕ → List (List ℕ)
whole_lines text received = take (newlines received) (lines_of text)
