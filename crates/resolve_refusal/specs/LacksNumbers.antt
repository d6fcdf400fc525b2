-- Why a report can't number a proof's steps, or the cases of a line: its numbers are 1 to 4294967295.
use Rattle.std.specs.Prelude.{◌⊎◌, ◌<◌, ℕ, List, length}
use Rattle.resolvo_text.specs.Line.{Line}
use Rattle.resolvo_catalogue_core.specs.Grammar.{line_at}
use Rattle.resolvo_catalogue_core.specs.Questions.{cases_of_line}

-- Some line of the text has more cases than there are numbers.
abbrev pub HasTooManyCases : List Line → Type 0
HasTooManyCases lines = (n : ℕ) × (4294967295 < length (cases_of_line (line_at lines n)))

-- Some line of one of the texts has more cases than there are numbers.
abbrev pub LacksCaseNumbers : List Line → List Line → Type 0
LacksCaseNumbers catalogue request = HasTooManyCases catalogue ⊎ HasTooManyCases request

-- There are more steps than numbers, or more cases of a line of a text.
pub data LacksNumbers (catalogue request : List Line) (steps : ℕ) : Type 0 where
  steps : 4294967295 < steps → LacksNumbers catalogue request steps
  cases : LacksCaseNumbers catalogue request → LacksNumbers catalogue request steps
