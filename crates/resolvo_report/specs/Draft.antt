-- A report of which the first lines are known.
use Rattle.std.specs.Prelude.{◌≡◌, ℕ, List, [], ◌∷◌, ◌++◌, length, Some}
use Rattle.resolvo_report.specs.declared.grammar.Part.{Part}
use Rattle.resolvo_report.specs.declared.grammar.Part.TheVariants as part
use Rattle.resolvo_report.specs.Value.{Report, Install, Refused, ReportLine}
use Rattle.resolvo_report.specs.Text.{report_lines}
use Rattle.resolvo_report.specs.Grammar.{next_part}

-- the last number, or 0
abbrev pub last_of : List ℕ → ℕ
last_of [] = 0
last_of (n ∷ []) = n
last_of (n ∷ m ∷ ns) = last_of (m ∷ ns)

-- the part that follows the lines of the report
abbrev pub part_of : Report → Part
part_of (Install lines []) = part.Answers
part_of (Install lines (s ∷ ss)) = part.InstallSteps (length (s ∷ ss))
part_of (Refused catalogue request steps (m ∷ ms)) = part.Message
part_of (Refused catalogue request (s ∷ ss) []) = part.RefusedSteps (length (s ∷ ss))
part_of (Refused catalogue (n ∷ ns) [] []) = part.Request (last_of (n ∷ ns))
part_of (Refused catalogue [] [] []) = part.Catalogue (last_of catalogue)

-- The line follows the report's lines, and gives the report with it.
pub record Grows (r : Report) (l : ReportLine) (s : Report) : Type 0 where
  pub lines : report_lines s ≡ report_lines r ++ l ∷ []
  pub placed : next_part (part_of r) l ≡ Some (part_of s)
