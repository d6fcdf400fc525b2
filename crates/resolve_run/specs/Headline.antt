-- The headline: what `run` writes for a catalogue and a request, in few definitions.
use Rattle.std.specs.Prelude.{◌≡◌, ◌≤◌, ℕ, List, length, Result, IfOk, IfErr, codes}
use Rattle.std.specs.Io.KnownBytes.{Appends}
use Rattle.resolvo_text.specs.Device.{IfKnown}
use Rattle.resolvo_text.specs.Line.{Line}
use Rattle.resolvo_text.specs.Texts.{IsGrammatical, IsFaultyAt}
use Rattle.resolvo_catalogue_core.specs.Grammar.{IsCatalogueLine, IsRequestLine}
use Rattle.resolvo_report.specs.Value.{Report, Install, Refused}
use Rattle.resolvo_report.specs.Text.{report_text}
use Rattle.resolvo_report.specs.Grammar.{most_bytes}
use Rattle.resolve_answer.specs.Headline.{IsRight}
use Rattle.resolve_check.specs.declared.outcome.Outcome.{Outcome}
use Rattle.resolve_check.specs.declared.outcome.Outcome.TheVariants as outcome
use Rattle.resolve_check.specs.Devices.{Device, IfCatalogueFaulty}
use Rattle.resolve_check.specs.Texts.{fault_text}

-- how a run ends that writes this report
abbrev pub outcome_of : Report → Outcome
outcome_of (Install lines steps) = outcome.Installed
outcome_of (Refused catalogue request steps message) = outcome.Refused

-- The text for two texts: the catalogue's first faulty line, else that of the request. Where there
-- is none, it is what is promised for their lines.
pub data IsTextFor (Promised : List Line → List Line → Outcome → List ℕ → Type 0) (c r : List ℕ) (ended : Outcome) (output : List ℕ) : Type 0 where
  catalogue_fault : (n : ℕ) → IsFaultyAt IsCatalogueLine c n → ended ≡ outcome.Faulty → output ≡ fault_text (codes "catalogue") n → IsTextFor Promised c r ended output
  request_fault : (catalogue : List Line) (n : ℕ) → IsGrammatical IsCatalogueLine c catalogue → IsFaultyAt (IsRequestLine catalogue) r n
      → ended ≡ outcome.Faulty → output ≡ fault_text (codes "request") n → IsTextFor Promised c r ended output
  grammatical : (catalogue request : List Line) → IsGrammatical IsCatalogueLine c catalogue → IsGrammatical (IsRequestLine catalogue) r request
      → Promised catalogue request ended output → IsTextFor Promised c r ended output

-- The text for the lines of grammatical texts: a report that the judge accepts, whose claim is
-- true, with the first choices. It has no more bytes than the judge reads.
pub record IsRightText (catalogue request : List Line) (ended : Outcome) (output : List ℕ) : Type 0 where
  pub report : Report
  pub right : IsRight catalogue request report
  pub ends : ended ≡ outcome_of report
  pub is_text : output ≡ report_text report
  pub bound : length output ≤ most_bytes

-- The headline of two texts.
abbrev pub IsHeadline : List ℕ → List ℕ → Outcome → List ℕ → Type 0
IsHeadline = IsTextFor IsRightText

-- The writer took such a text of the two texts, where both are known, and nothing else.
abbrev pub WritesHeadline : Device → Device → Device → Outcome → Type 0
WritesHeadline catalogue request writer outcome = (output : List ℕ) × IfKnown catalogue.before (λ c. IfKnown request.before (λ r. IsHeadline c r outcome output)) × Appends writer.before writer.after output

-- What a run does to its readers and its writer, by how it ended. Explains says more of a whole text, and Stops why there
-- is none. The reader of the request is named before the run and after it.
pub record IsRun {E S : Type 0} (Explains : Device → Device → Device → Outcome → Type 0) (Stops : E → Device → Device → Device → Type 0) (catalogue request writer : Device) (before after : S) (ended : Result Outcome E) : Type 0 where
  -- the headline: the judge accepts the report, its claim is true, and it has the first choices
  pub headline : IfOk ended (WritesHeadline catalogue request writer)
  -- what explains it: the turns of the search, the steps in use, and the message
  pub written : IfOk ended (Explains catalogue request writer)
  -- after a refusal: which it is, why, and how much was written
  pub stopped : IfErr ended (λ e. Stops e catalogue request writer)
  -- where the catalogue has a faulty line, the reader of the request stays as it was
  pub catalogue_faulty : IfCatalogueFaulty catalogue.before (after ≡ before)
