-- The text of a check for a catalogue, a request and a report, and its effect on its devices.
use Rattle.std.specs.Prelude.{◌≡◌, ℕ, ◌⊎◌, List, ◌++◌, Option, Result, Err, IfOk, IfErr, codes}
use Rattle.std.specs.Fmt.{decimal}
use Rattle.std.specs.Io.KnownBytes.{Appends}
use Rattle.resolvo_text.specs.Device.{IfKnown, TakesPrefix}
use Rattle.resolvo_text.specs.Line.{Line}
use Rattle.resolvo_text.specs.Texts.{IsGrammatical, IsFaultyAt}
use Rattle.resolvo_text.specs.declared.lines.ReadFault.{ReadFault}
use Rattle.resolvo_text.specs.declared.lines.ReadFault.TheVariants as read
use Rattle.resolvo_catalogue_core.specs.Grammar.{IsCatalogueLine, IsRequestLine}
use Rattle.resolvo_judge.specs.declared.judgement.Verdict.{Verdict}
use Rattle.resolvo_judge.specs.declared.judgement.Verdict.TheVariants as verdict
use Rattle.resolvo_judge.specs.declared.judgement.JudgeFault.{JudgeFault}
use Rattle.resolvo_judge.specs.declared.judgement.JudgeFault.TheVariants as judging
use Rattle.resolvo_judge.specs.Judgement.{IsVerdict, ClaimsTruth, IsJudgeFault}
use Rattle.resolve_check.specs.declared.outcome.Checked.{Checked}
use Rattle.resolve_check.specs.declared.outcome.Checked.TheVariants.{Yes, No, Faulty}
use Rattle.resolve_check.specs.declared.outcome.RunFault.{RunFault}
use Rattle.resolve_check.specs.declared.outcome.RunFault.TheVariants.{Reader, TooLong, Memory, Ids, Writer}
use Rattle.resolve_check.specs.declared.check.Response.{Response}
use Rattle.resolve_check.specs.Devices.{Device, StopsReading}
use Rattle.resolve_check.specs.Texts.{newline, fault_text}

abbrev pub yes_text : List ℕ
yes_text = codes "yes" ++ newline

abbrev pub no_text : ℕ → List ℕ
no_text n = codes "no line " ++ (decimal n ++ newline)

-- how a verdict is reported
abbrev pub IsVerdictText : Verdict → Checked → List ℕ → Type 0
IsVerdictText verdict.Yes checked output = (checked ≡ Yes) × (output ≡ yes_text)
IsVerdictText (verdict.No n) checked output = (checked ≡ No) × (output ≡ no_text n)

-- The text for three texts: the catalogue's first faulty line, else that of the request. Where
-- there is none, it is the judge's verdict on the report, whose claim is true after a yes.
pub data IsCheck (c r p : List ℕ) (checked : Checked) (output : List ℕ) : Type 0 where
  catalogue_fault : (n : ℕ) → IsFaultyAt IsCatalogueLine c n → checked ≡ Faulty → output ≡ fault_text (codes "catalogue") n → IsCheck c r p checked output
  request_fault : (catalogue : List Line) (n : ℕ) → IsGrammatical IsCatalogueLine c catalogue → IsFaultyAt (IsRequestLine catalogue) r n
      → checked ≡ Faulty → output ≡ fault_text (codes "request") n → IsCheck c r p checked output
  judged : (catalogue request : List Line) (v : Verdict) → IsGrammatical IsCatalogueLine c catalogue → IsGrammatical (IsRequestLine catalogue) r request
      → IsVerdict catalogue request p v → ClaimsTruth catalogue request p v → IsVerdictText v checked output → IsCheck c r p checked output

-- A check of the three texts, where all are known.
abbrev pub ChecksTexts : Option (List ℕ) → Option (List ℕ) → Option (List ℕ) → Checked → List ℕ → Type 0
ChecksTexts catalogue request report checked output = IfKnown catalogue (λ c. IfKnown request (λ r. IfKnown report (λ p. IsCheck c r p checked output)))

-- The writer took a check of the three texts, and nothing else.
abbrev pub WritesCheck : Device → Device → Device → Device → Checked → Type 0
WritesCheck catalogue request report writer checked = (output : List ℕ) × ChecksTexts catalogue.before request.before report.before checked output × Appends writer.before writer.after output

-- The catalogue and the request were read to their ends, and judging the report stopped so.
pub record StopsJudging (fault : JudgeFault) (catalogue request report : Device) : Type 0 where
  pub catalogue_lines : List Line
  pub request_lines : List Line
  pub catalogue_read : IfKnown catalogue.before (λ text. IsGrammatical IsCatalogueLine text catalogue_lines)
  pub request_read : IfKnown request.before (λ text. IsGrammatical (IsRequestLine catalogue_lines) text request_lines)
  pub stops : IsJudgeFault catalogue_lines request_lines fault report.before report.after report.Failed

-- Reading one of the first two texts stopped so and the report wasn't read, or judging it did.
abbrev pub StopsTexts : ReadFault → JudgeFault → Device → Device → Device → Type 0
StopsTexts f g catalogue request report = (StopsReading f catalogue request × (report.after ≡ report.before)) ⊎ StopsJudging g catalogue request report

-- Why nothing is written.
abbrev pub StopsBeforeCheck : RunFault → Device → Device → Device → Type 0
StopsBeforeCheck Reader catalogue request report = StopsTexts read.Reader judging.Reader catalogue request report
StopsBeforeCheck TooLong catalogue request report = StopsTexts read.TooLong judging.TooLong catalogue request report
StopsBeforeCheck Memory catalogue request report = Unit {0}
StopsBeforeCheck Ids catalogue request report = ⊥
StopsBeforeCheck Writer catalogue request report = ⊥

-- Why a check ends without its whole text, and the bytes that were written: none, or after a failed
-- write a prefix of it.
abbrev pub StopsCheck : RunFault → Device → Device → Device → Device → Type 0
StopsCheck Writer catalogue request report writer = writer.Failed × ((checked : Checked) × (output : List ℕ) × ChecksTexts catalogue.before request.before report.before checked output × TakesPrefix writer.before writer.after output)
StopsCheck e catalogue request report writer = StopsBeforeCheck e catalogue request report × (writer.after ≡ writer.before)

-- A faulty line is reported as such; every other fault is the check's, by its own name.
abbrev pub AnswersFault : ReadFault → List ℕ → Result Response RunFault → Type 0
AnswersFault (read.Fault n) which answered = IfOk answered (λ answer. (answer.checked ≡ Faulty) × (answer.text.items ≡ fault_text which n)) × IfErr answered (λ e. e ≡ Memory)
AnswersFault read.Reader which answered = answered ≡ Err Reader
AnswersFault read.TooLong which answered = answered ≡ Err TooLong
AnswersFault read.Memory which answered = answered ≡ Err Memory
AnswersFault read.Ids which answered = answered ≡ Err Ids
