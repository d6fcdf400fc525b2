-- The text of a refusal is an answer.
use Rattle.std.proofs.Common.{ℕ, List}
use Rattle.resolvo_text.specs.Line.{Line}
use Rattle.resolvo_report.specs.View.{steps_of}
use Rattle.resolve_refusal.specs.Parts.{report_with}
use Rattle.resolve_refusal.specs.declared.report.Refusal.{Refusal}
use Rattle.resolve_answer.specs.Reported.{IsReportOf}
use Rattle.resolve_answer.specs.Answer.{IsAnswerOf, IsRefusalText}
use Rattle.resolve_answer.specs.declared.answer.Answer.{Answer}
use Rattle.resolve_answer.specs.declared.answer.Answer.TheVariants.{Installed, Refused}

pub refusal_told : (catalogue request : List Line) (r : Refusal) (lines : List (List ℕ)) (a : Answer) → IsRefusalText (report_with lines r) a → IsReportOf catalogue request (report_with lines r) → IsAnswerOf catalogue request a
refusal_told catalogue request r lines (Installed text) parts reported = absurd parts
refusal_told catalogue request r lines (Refused head message) parts reported = (r.catalogue.items, r.request.items, steps_of r.steps.items, lines, parts, reported)
