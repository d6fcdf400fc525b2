-- A report that is right: the judge accepts it, its claim is true, and it has the first choices.
use Rattle.std.specs.Prelude.{List, map}
use Rattle.resolvo_text.specs.Line.{Line}
use Rattle.resolvo_report.specs.Value.{Report, Install, Refused}
use Rattle.resolvo_report.specs.Text.{report_text}
use Rattle.resolvo_judge.specs.Judgement.{IsUpheld, IsClaimTrue}
use Rattle.resolvo_judge.specs.Refusal.{answer_of}
use Rattle.resolve_answer.specs.First.{HasFirstChosen}

-- An install report has the first choices.
abbrev pub HasFirstChoices : List Line → List Line → Report → Type 0
HasFirstChoices catalogue request (Install lines steps) = HasFirstChosen catalogue request (map answer_of lines)
HasFirstChoices catalogue request (Refused catalogue_lines request_lines steps message) = Unit {0}

-- The judge accepts the report by its text, and its claim is true. So it installs exactly if some
-- set keeps the rules of both texts.
pub record IsRight (catalogue request : List Line) (r : Report) : Type 0 where
  pub upheld : IsUpheld catalogue request (report_text r) r
  pub claim : IsClaimTrue catalogue request r
  pub first : HasFirstChoices catalogue request r
