-- Lines that wish no version.
use Rattle.std.specs.Prelude.{◌≡◌, ℕ, IsTrue, Bool, true, false, List, Some}
use Rattle.resolvo_text.specs.Line.{Line, Wish}
use Rattle.resolvo_catalogue_core.specs.Grammar.{line_at}

-- The line wishes no version.
abbrev pub wishes_nothing : Line → Bool
wishes_nothing (Wish v) = false
wishes_nothing _ = true

-- Each line is so.
abbrev pub AllLines : (Line → Bool) → List Line → Type 0
AllLines is_so lines = (m : ℕ) (line : Line) → line_at lines m ≡ Some line → IsTrue (is_so line)
