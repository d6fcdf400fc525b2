-- The lines of the two texts that steps rest on.
use Rattle.std.specs.Prelude.{◌≡◌, ℕ, suc, ◌<◌, Bool, true, List, length, Option, Some, None, slice_get, Contains}
use Rattle.resolvo_text.specs.Line.{Line}
use Rattle.resolvo_catalogue_core.specs.Questions.{AreAll}
use Rattle.resolvo_report.specs.Value.{Place, OfRequest, OfVersion, Step, Need, Gate, Shared, LimitBars, Limit, Outside, Matches, Lock, Exclude, Unknown, Digit, Any, Derive}
use Rattle.resolve_refusal.specs.declared.named_lines.Text.{Text}
use Rattle.resolve_refusal.specs.declared.named_lines.Text.TheVariants as text

-- the line, if it is one of the catalogue
abbrev pub in_catalogue : Text → ℕ → Option ℕ
in_catalogue text.Catalogue line = Some line
in_catalogue text.Request line = None

-- the line of a place, if the place is in the text
abbrev pub line_of : Text → Place → ℕ → Option ℕ
line_of text.Catalogue OfRequest line = None
line_of text.Catalogue (OfVersion v) line = Some line
line_of text.Request OfRequest line = Some line
line_of text.Request (OfVersion v) line = None

-- the line of the text that the step rests on, if it rests on one
abbrev pub line_in : Text → Step → Option ℕ
line_in of (Need place line case) = line_of of place line
line_in of (Gate v line) = in_catalogue of line
line_in of (Shared alternatives) = None
line_in of (LimitBars place line v) = line_of of place line
line_in of (Limit place line) = line_of of place line
line_in of (Outside s v) = None
line_in of (Matches s v) = None
line_in of (Lock line v) = in_catalogue of line
line_in of (Exclude line) = in_catalogue of line
line_in of (Unknown line) = in_catalogue of line
line_in of (Digit v place bit) = None
line_in of (Any v) = None
line_in of (Derive literals causes) = None

-- a step rests on this line of the text
abbrev pub RestsOn : Text → List Step → ℕ → Type 0
RestsOn of steps n = (s : Step) × Contains steps s × (line_in of s ≡ Some n)

-- it is a line of the text, which has so many, and a step rests on it
abbrev pub IsNamedBy : Text → ℕ → List Step → ℕ → Type 0
IsNamedBy of count steps n = (k : ℕ) × (n ≡ suc k) × (k < count) × RestsOn of steps n

-- The lines that are named, of the catalogue and of the request, are exactly those on which steps rest.
pub record AreUsedLines (catalogue request : List Line) (in_catalogue in_request : List ℕ) (steps : List Step) : Type 0 where
  pub named : AreAll in_catalogue (IsNamedBy text.Catalogue (length catalogue) steps)
  pub asked : AreAll in_request (IsNamedBy text.Request (length request) steps)

-- the flag at this place is set
abbrev pub IsFlagged : List Bool → ℕ → Type 0
IsFlagged flags place = slice_get flags place ≡ Some true

-- the line is one of the first so many, and its flag is set
abbrev pub IsFlaggedLine : List Bool → ℕ → ℕ → Type 0
IsFlaggedLine flags below n = (k : ℕ) × (n ≡ suc k) × (k < below) × IsFlagged flags k

-- There is a flag for each line, and those of the lines that steps rest on are set.
pub record AreFlagged (of : Text) (count : ℕ) (steps : List Step) (flags : List Bool) : Type 0 where
  pub long : length flags ≡ count
  pub set : (k : ℕ) → k < count → RestsOn of steps (suc k) → IsFlagged flags k
  pub only : (k : ℕ) → IsFlagged flags k → RestsOn of steps (suc k)
