-- The report of a search, as it is handed over.
use Rattle.std.specs.Prelude.{◌≡◌, ℕ, List, ◌++◌}
use Rattle.resolvo_text.specs.Line.{Line}
use Rattle.resolvo_report.specs.Value.{AnswerLine, Step, Report, Install}
use Rattle.resolvo_report.specs.Value as value
use Rattle.resolvo_report.specs.Text.{report_text}
use Rattle.resolve_answer.specs.Reported.{IsReportOf}
use Rattle.resolve_answer.specs.declared.answer.Answer.{Answer}
use Rattle.resolve_answer.specs.declared.answer.Answer.TheVariants.{Installed, Refused}

-- It is the text of an install report, or that of a refused one in two parts.
abbrev pub IsAnswerOf : List Line → List Line → Answer → Type 0
IsAnswerOf catalogue request (Installed text) = (lines : List AnswerLine) × (steps : List Step) × (text.items ≡ report_text (Install lines steps)) × IsReportOf catalogue request (Install lines steps)
IsAnswerOf catalogue request (Refused head message) = (named asked : List ℕ) × (steps : List Step) × (lines : List (List ℕ)) × (head.items ++ message.items ≡ report_text (value.Refused named asked steps lines)) × IsReportOf catalogue request (value.Refused named asked steps lines)

-- It is a refusal whose two parts are the text of this report.
abbrev pub IsRefusalText : Report → Answer → Type 0
IsRefusalText r (Installed text) = ⊥
IsRefusalText r (Refused head message) = head.items ++ message.items ≡ report_text r
