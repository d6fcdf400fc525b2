-- The effect of a run on its devices: a text is written, or a prefix of one, or nothing, and why.
use Rattle.std.specs.Prelude.{◌≡◌, ◌⊎◌, ℕ, List, Option}
use Rattle.std.specs.Io.KnownBytes.{Appends}
use Rattle.resolvo_text.specs.Device.{IfKnown, TakesPrefix}
use Rattle.resolvo_text.specs.Line.{Line}
use Rattle.resolvo_text.specs.Texts.{IsGrammatical}
use Rattle.resolvo_text.specs.declared.lines.ReadFault.TheVariants as read
use Rattle.resolvo_catalogue_core.specs.Grammar.{IsCatalogueLine, IsRequestLine}
use Rattle.resolve_answer.specs.Reported.{HaveLongReport}
use Rattle.resolve_check.specs.declared.outcome.Outcome.{Outcome}
use Rattle.resolve_check.specs.declared.outcome.RunFault.{RunFault}
use Rattle.resolve_check.specs.declared.outcome.RunFault.TheVariants.{Reader, TooLong, Memory, Ids, Writer}
use Rattle.resolve_check.specs.Devices.{Device, IfCatalogueFaulty, StopsReading}
use Rattle.resolve_run.specs.Answer.{IsAnswer}

-- Where the catalogue has a faulty line, the reader of the request stays as it was.
abbrev pub LeavesRequest : {S : Type 0} → Option (List ℕ) → S → S → Type 0
LeavesRequest catalogue before after = IfCatalogueFaulty catalogue (after ≡ before)

-- An answer of the two texts, where both are known.
abbrev pub AnswersTexts : Option (List ℕ) → Option (List ℕ) → Outcome → List ℕ → Type 0
AnswersTexts catalogue request outcome output = IfKnown catalogue (λ c. IfKnown request (λ r. IsAnswer c r outcome output))

-- The writer took an answer of the two texts, and nothing else.
abbrev pub Writes : Device → Device → Device → Outcome → Type 0
Writes catalogue request writer outcome = (output : List ℕ) × AnswersTexts catalogue.before request.before outcome output × Appends writer.before writer.after output

-- Both texts were read to their ends, and have no faulty line.
pub record AreRead (catalogue request : Device) : Type 0 where
  pub catalogue_lines : List Line
  pub request_lines : List Line
  pub catalogue_read : IfKnown catalogue.before (λ text. IsGrammatical IsCatalogueLine text catalogue_lines)
  pub request_read : IfKnown request.before (λ text. IsGrammatical (IsRequestLine catalogue_lines) text request_lines)

-- Why texts that were read have no answer: the search lacks something, or their report is too long.
abbrev pub IsLack : RunFault → List Line → List Line → Type 0
IsLack Memory catalogue request = Unit {0}
IsLack Ids catalogue request = Unit {0}
IsLack TooLong catalogue request = HaveLongReport catalogue request
IsLack _ catalogue request = ⊥

-- Why nothing is written: neither text's fault nor its line is reported here.
abbrev pub StopsBefore : RunFault → Device → Device → Type 0
StopsBefore Reader catalogue request = StopsReading read.Reader catalogue request
StopsBefore TooLong catalogue request = StopsReading read.TooLong catalogue request ⊎ ((are : AreRead catalogue request) × HaveLongReport are.catalogue_lines are.request_lines)
StopsBefore Memory catalogue request = Unit {0}
StopsBefore Ids catalogue request = AreRead catalogue request
StopsBefore Writer catalogue request = ⊥

-- Why a run ends without its whole text, and the bytes that were written: none, or after a failed
-- write a prefix of an answer.
abbrev pub StopsRun : RunFault → Device → Device → Device → Type 0
StopsRun Writer catalogue request writer = writer.Failed × ((outcome : Outcome) × (output : List ℕ) × AnswersTexts catalogue.before request.before outcome output × TakesPrefix writer.before writer.after output)
StopsRun e catalogue request writer = StopsBefore e catalogue request × (writer.after ≡ writer.before)
