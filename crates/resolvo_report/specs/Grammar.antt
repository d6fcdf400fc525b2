-- Which line of a report may follow which, and the first line of a text that doesn't.
use Rattle.std.specs.Prelude.{◌≡◌, ℕ, ◌+◌, ◌<◌, ⊤, ◌⊎◌, Bool, true, false, nat_lt, ◌==◌, if◌then◌else◌, IsTrue, List, [], ◌∷◌, ◌++◌, length, Option, Some, None, option_and_then, codes}
use Rattle.std.specs.List.{AllByRecursion}
use Rattle.resolvo_text.specs.Device.{IfKnown}
use Rattle.resolvo_text.specs.Lines.{newlines}
use Rattle.resolvo_report.specs.Value.{Report, ReportLine, InstallHead, RefusedHead, Answer, CatalogueLine, RequestLine, Numbered, Message}
use Rattle.resolvo_report.specs.Text.{line_text, lines_text, HasText, report_lines}
use Rattle.resolvo_report.specs.declared.grammar.Part.{Part}
use Rattle.resolvo_report.specs.declared.grammar.Part.TheVariants as part
use Rattle.resolvo_report.specs.declared.reader.ReportFault.{ReportFault}
use Rattle.resolvo_report.specs.declared.reader.ReportFault.TheVariants.{NotAReport, Reader, TooLong, Memory}

-- Steps are numbered from 1 without gaps.
abbrev pub install_steps_from : ℕ → ReportLine → Option Part
install_steps_from count (Numbered n s) = if n == count + 1 then Some (part.InstallSteps n) else None
install_steps_from count _ = None

abbrev pub refused_steps_from : ℕ → ReportLine → Option Part
refused_steps_from count (Numbered n s) = if n == count + 1 then Some (part.RefusedSteps n) else None
refused_steps_from count _ = None

-- Named lines of the request rise.
abbrev pub request_from : ℕ → ReportLine → Option Part
request_from last (RequestLine n) = if nat_lt last n then Some (part.Request n) else None
request_from last l = refused_steps_from 0 l

-- The line is allowed in this part of a report, and the next one is in that part.
abbrev pub next_part : Part → ReportLine → Option Part
next_part part.Start InstallHead = Some part.Answers
next_part part.Start RefusedHead = Some (part.Catalogue 0)
next_part part.Start _ = None
next_part part.Answers (Answer a) = Some part.Answers
next_part part.Answers l = install_steps_from 0 l
next_part (part.InstallSteps count) l = install_steps_from count l
next_part (part.Catalogue last) (CatalogueLine n) = if nat_lt last n then Some (part.Catalogue n) else None
next_part (part.Catalogue last) l = request_from 0 l
next_part (part.Request last) l = request_from last l
next_part (part.RefusedSteps count) (Message bytes) = Some part.Message
next_part (part.RefusedSteps count) l = refused_steps_from count l
next_part part.Message (Message bytes) = Some part.Message
next_part part.Message _ = None

-- the part after these lines, if each is allowed at its place
abbrev pub part_after : Part → List ReportLine → Option Part
part_after p [] = Some p
part_after p (l ∷ ls) = option_and_then (λ q. part_after q ls) (next_part p l)

-- A report may end in this part: an install report anywhere, a refused one once it has a step.
abbrev pub may_end : Part → Bool
may_end part.Answers = true
may_end (part.InstallSteps count) = true
may_end (part.RefusedSteps count) = true
may_end part.Message = true
may_end _ = false

-- Each line has a text and is allowed at its place, and the next part is that one.
pub record AreLines (lines : List ReportLine) (p : Part) : Type 0 where
  pub each : AllByRecursion HasText lines
  pub placed : part_after part.Start lines ≡ Some p

-- ---- texts

-- The report has a text: each line has one and is allowed at its place, and the report may end there.
pub record IsReport (r : Report) : Type 0 where
  pub part : Part
  pub lines : AreLines (report_lines r) part
  pub whole : IsTrue (may_end part)

-- These bytes begin with a line that this part allows, and its newline; or they are none, and the report may
-- end.
abbrev pub GoesOn : Part → List ℕ → Type 0
GoesOn p bytes = ((line : ReportLine) × (rest : List ℕ) × (q : Part) × HasText line × (next_part p line ≡ Some q) × (bytes ≡ line_text line ++ codes "\n" ++ rest)) ⊎ ((bytes ≡ []) × IsTrue (may_end p))

-- Above line n the text has lines of a report that are allowed at their places, and no such line at n.
pub record IsOutsideAt (text : List ℕ) (n : ℕ) : Type 0 where
  pub above : List ReportLine
  pub below : List ℕ
  pub part : Part
  pub parts : text ≡ lines_text above ++ below
  pub good : AreLines above part
  pub place : n ≡ length above + 1
  pub none : GoesOn part below → ⊥

-- These bytes of the text were read; the lines that end among them are allowed lines of a report.
pub record IsGoodSoFar (received : List ℕ) : Type 0 where
  pub above : List ReportLine
  pub begun : List ℕ
  pub part : Part
  pub parts : received ≡ lines_text above ++ begun
  pub good : AreLines above part
  pub unfinished : newlines begun ≡ 0

-- Some bytes of the text were read, the rest remains, and those are good so far.
pub record IsGoodPrefix (text : List ℕ) (after : Option (List ℕ)) : Type 0 where
  pub received : List ℕ
  pub rest : List ℕ
  pub left : after ≡ Some rest
  pub parts : text ≡ received ++ rest
  pub good : IsGoodSoFar received

-- the most bytes that a report may have
abbrev pub most_bytes : ℕ
most_bytes = 1073741824

-- When reading a report may fail so: the device's bytes before and after, and that the device failed. Whole
-- lines that were read are checked before the next read of the device.
abbrev pub IsReportFault : ReportFault → Option (List ℕ) → Option (List ℕ) → Type 0 → Type 0
IsReportFault (NotAReport n) before after failed = IfKnown before (λ text. IsOutsideAt text n)
IsReportFault Reader before after failed = failed × IfKnown before (λ text. IsGoodPrefix text after)
IsReportFault TooLong before after failed = IfKnown before (λ text. (received : List ℕ) × (rest : List ℕ) × (text ≡ received ++ rest) × (length received ≡ most_bytes) × (0 < length rest) × IsGoodSoFar received)
IsReportFault Memory before after failed = ⊤
