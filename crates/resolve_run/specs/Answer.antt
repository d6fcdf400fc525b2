-- The text of a run for a catalogue and a request, with what explains its report.
use Rattle.std.specs.Prelude.{◌≡◌, ◌≤◌, ℕ, List, length}
use Rattle.resolvo_text.specs.Line.{Line}
use Rattle.resolvo_report.specs.Value.{Report}
use Rattle.resolvo_report.specs.Text.{report_text}
use Rattle.resolvo_report.specs.Grammar.{most_bytes}
use Rattle.resolve_answer.specs.Reported.{IsReportOf}
use Rattle.resolve_check.specs.declared.outcome.Outcome.{Outcome}
use Rattle.resolve_run.specs.Headline.{IsTextFor, outcome_of}

-- The text for the lines of grammatical texts: a report that the judge accepts, whose claim is
-- true. Its turns, steps and message are those of a search. It has no more bytes than the judge reads.
pub record IsAnswerOfLines (catalogue request : List Line) (ended : Outcome) (output : List ℕ) : Type 0 where
  pub report : Report
  pub reported : IsReportOf catalogue request report
  pub ends : ended ≡ outcome_of report
  pub is_text : output ≡ report_text report
  pub bound : length output ≤ most_bytes

-- The text for two texts: the catalogue's first faulty line, else that of the request. Where there
-- is none, it is the answer of their lines.
abbrev pub IsAnswer : List ℕ → List ℕ → Outcome → List ℕ → Type 0
IsAnswer = IsTextFor IsAnswerOfLines
