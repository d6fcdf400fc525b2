-- Whether a report holds for the lines of a catalogue and a request, and where its text is refused.
use Rattle.std.specs.Prelude.{◌≡◌, ℕ, ◌+◌, ◌<◌, ◌⊎◌, ⊤, true, IsTrue, List, [], ◌++◌, length, map, Option, Some, codes}
use Rattle.resolvo_text.specs.Device.{IfKnown}
use Rattle.resolvo_text.specs.Sources.{SourceFailed}
use Rattle.resolvo_text.specs.Line.{Line}
use Rattle.resolvo_text.specs.Lines.{newlines}
use Rattle.resolvo_text.specs.declared.device.Source as source
use Rattle.resolvo_catalogue_core.specs.Answers.{ClaimsInstall, ClaimsRefusal}
use Rattle.resolvo_report.specs.declared.grammar.Part.{Part}
use Rattle.resolvo_report.specs.declared.reader.ReportFault.{ReportFault}
use Rattle.resolvo_report.specs.declared.reader.ReportFault.TheVariants as read
use Rattle.resolvo_report.specs.Value.{Report, Install, Refused, ReportLine}
use Rattle.resolvo_report.specs.Text.{line_text, lines_text, HasText, report_lines, report_text}
use Rattle.resolvo_report.specs.Grammar.{next_part, may_end, AreLines, IsReport, most_bytes}
use Rattle.resolvo_checker.specs.declared.clauses.Readings.{Readings}
use Rattle.resolvo_judge.specs.declared.judgement.Verdict.{Verdict}
use Rattle.resolvo_judge.specs.declared.judgement.Verdict.TheVariants.{Yes, No}
use Rattle.resolvo_judge.specs.declared.judgement.JudgeFault.{JudgeFault}
use Rattle.resolvo_judge.specs.declared.judgement.JudgeFault.TheVariants.{Reader, TooLong, Memory}
use Rattle.resolvo_checker.specs.CheckStep.{count_causes}
use Rattle.resolvo_judge.specs.Refusal.{answer_of, steps_in, passes, Ends, ArePassed, IsAccepted}

-- ---- reports that hold

-- The claim of a report is true. Steps and message claim nothing by themselves.
abbrev pub IsClaimTrue : List Line → List Line → Report → Type 0
IsClaimTrue catalogue request (Install lines steps) = ClaimsInstall catalogue request (map answer_of lines)
IsClaimTrue catalogue request (Refused catalogue_lines request_lines steps message) = ClaimsRefusal catalogue request catalogue_lines request_lines

-- These bytes are the text of this report, all lines of which pass, and whose end does.
pub record IsUpheld (catalogue request : List Line) (text : List ℕ) (r : Report) : Type 0 where
  pub report : IsReport r
  pub is : text ≡ report_text r
  pub accepted : IsAccepted catalogue request (report_lines r)

-- how many clauses the `derive` steps of a report name
abbrev pub causes_named : Report → ℕ
causes_named r = count_causes (steps_in (report_lines r))

-- ---- where a text is refused

-- After these lines, in this part of a report, the bytes begin with a line that may be next and
-- passes, and its newline. Or they are none, and the report may end.
abbrev pub HoldsOn : List Line → List Line → List ReportLine → Part → List ℕ → Type 0
HoldsOn catalogue request above p bytes =
    ((line : ReportLine) × (rest : List ℕ) × (q : Part) × HasText line × (next_part p line ≡ Some q) × (bytes ≡ line_text line ++ codes "\n" ++ rest) × (passes catalogue request above line ≡ true))
    ⊎ ((bytes ≡ []) × IsTrue (may_end p) × Ends catalogue request above)

-- Above line n the text has lines of a report that pass, and doesn't go on with one at line n, nor end rightly there.
pub record IsRefusedAt (catalogue request : List Line) (text : List ℕ) (n : ℕ) : Type 0 where
  pub above : List ReportLine
  pub below : List ℕ
  pub part : Part
  pub parts : text ≡ lines_text above ++ below
  pub good : AreLines above part
  pub passed : ArePassed catalogue request above
  pub place : n ≡ length above + 1
  pub none : HoldsOn catalogue request above part below → ⊥

-- ---- the judge's answer

-- Yes where the text is that of a report which holds, else the place where it is refused.
abbrev pub IsVerdict : List Line → List Line → List ℕ → Verdict → Type 0
IsVerdict catalogue request text Yes = (r : Report) × IsUpheld catalogue request text r
IsVerdict catalogue request text (No n) = IsRefusedAt catalogue request text n

-- After a yes the claim of the text's report is true.
abbrev pub ClaimsTruth : List Line → List Line → List ℕ → Verdict → Type 0
ClaimsTruth catalogue request text Yes = (r : Report) × IsReport r × (text ≡ report_text r) × IsClaimTrue catalogue request r
ClaimsTruth catalogue request text (No n) = ⊤

-- After a yes each clause was read as often as the report's `derive` steps name it.
abbrev pub CountsReadings : List ℕ → Verdict → Readings → Type 0
CountsReadings text Yes readings = (r : Report) × IsReport r × (text ≡ report_text r) × (readings.named ≡ causes_named r) × (readings.read ≡ causes_named r)
CountsReadings text (No n) readings = ⊤

-- ---- why there is no answer

-- These bytes of the text were received, and the rest is left. The whole lines among them are lines
-- of a report that pass.
pub record IsReceived (catalogue request : List Line) (text received rest : List ℕ) : Type 0 where
  pub parts : text ≡ received ++ rest
  pub above : List ReportLine
  pub begun : List ℕ
  pub part : Part
  pub lines : received ≡ lines_text above ++ begun
  pub good : AreLines above part
  pub passed : ArePassed catalogue request above
  pub unfinished : newlines begun ≡ 0

-- When there is no answer: by the bytes left in the device before and after, and its failure.
-- Received whole lines are judged before the next read.
abbrev pub IsJudgeFault : List Line → List Line → JudgeFault → Option (List ℕ) → Option (List ℕ) → Type 0 → Type 0
IsJudgeFault catalogue request Reader before after failed = failed × IfKnown before (λ text. (received : List ℕ) × (rest : List ℕ) × (after ≡ Some rest) × IsReceived catalogue request text received rest)
IsJudgeFault catalogue request TooLong before after failed = IfKnown before (λ text. (received : List ℕ) × (rest : List ℕ) × (length received ≡ most_bytes) × (0 < length rest) × IsReceived catalogue request text received rest)
IsJudgeFault catalogue request Memory before after failed = ⊤

-- Why no line is given: at that line the text is refused, or there is no answer.
abbrev pub IsStop : List Line → List Line → ReportFault → Option (List ℕ) → Option (List ℕ) → Type 0 → Type 0
IsStop catalogue request (read.NotAReport n) before after failed = IfKnown before (λ text. IsRefusedAt catalogue request text n)
IsStop catalogue request read.Reader before after failed = IsJudgeFault catalogue request Reader before after failed
IsStop catalogue request read.TooLong before after failed = IsJudgeFault catalogue request TooLong before after failed
IsStop catalogue request read.Memory before after failed = ⊤

-- The same of a device with these members, before a call and after it: there is no answer, for this fault.
abbrev pub GivesNoAnswer : {S : Type 0} → source.Ghosts S → List Line → List Line → JudgeFault → S → S → Type 0
GivesNoAnswer d catalogue request e before after = IsJudgeFault catalogue request e (d.left before) (d.left after) (SourceFailed d before after)

-- No line is given, for this fault.
abbrev pub StopsJudging : {S : Type 0} → source.Ghosts S → List Line → List Line → ReportFault → S → S → Type 0
StopsJudging d catalogue request e before after = IsStop catalogue request e (d.left before) (d.left after) (SourceFailed d before after)
