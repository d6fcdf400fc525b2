-- A reader of the lines of a report, with the device that it reads from.
use Rattle.std.specs.Prelude.{◌≡◌, ℕ, ◌+◌, ◌<◌, ⊤, Bool, IsTrue, List, ◌++◌, length, take, Option, Some, codes}
use Rattle.std.specs.Io.KnownBytes.{Consumes, IsAtEnd}
use Rattle.resolvo_text.specs.Device.{IfKnown}
use Rattle.resolvo_text.specs.Sources.{SourceFailed}
use Rattle.resolvo_text.specs.Lines.{newlines}
use Rattle.resolvo_text.specs.Reader as lines
use Rattle.resolvo_text.specs.declared.device.Source as source
use Rattle.resolvo_report.specs.declared.reader.ReportReader.{ReportReader}
use Rattle.resolvo_report.specs.declared.reader.ReportFault.{ReportFault}
use Rattle.resolvo_report.specs.declared.reader.ReportFault.TheVariants.{NotAReport, Reader, TooLong, Memory}
use Rattle.resolvo_report.specs.Value.{ReportLine}
use Rattle.resolvo_report.specs.Text.{line_text, HasText}
use Rattle.resolvo_report.specs.Grammar.{next_part, may_end, GoesOn}
use Rattle.resolvo_report.specs.Shown.{IsShown}

-- the rest of the text, where the device knows it
abbrev pub left : ReportReader → Option (List ℕ) → Option (List ℕ)
left r remaining = lines.left r.lines remaining

-- A line with its newline was taken of the rest of the text, and its bytes of the room. The part allowed it, and
-- the next part is that of the second reader.
pub record GivesLine (before : Option (List ℕ)) (r : ReportReader) (line : ReportLine) (after : Option (List ℕ)) (s : ReportReader) : Type 0 where
  pub bytes : Consumes before after (line_text line ++ codes "\n")
  pub text : HasText line
  pub placed : next_part r.part line ≡ Some s.part
  pub number : s.number ≡ r.number + 1
  pub room : s.lines.room + length (line_text line ++ codes "\n") ≡ r.lines.room

-- When the next line is not given so: the rest of the text before and after, the part and the number of lines
-- above, the room before, and that the device failed.
abbrev pub IsLineFault : ReportFault → ReportReader → Option (List ℕ) → Option (List ℕ) → Type 0 → Type 0
IsLineFault (NotAReport n) r before after failed = (n ≡ r.number + 1) × IfKnown before (λ bytes. GoesOn r.part bytes → ⊥)
IsLineFault Reader r before after failed = failed × lines.NoLineReceived before after
IsLineFault TooLong r before after failed = IfKnown before (λ bytes. (r.lines.room < length bytes) × (newlines (take r.lines.room bytes) ≡ 0))
IsLineFault Memory r before after failed = ⊤

-- ---- of a device with these members, before a call and after it

-- The reader took this line, and then it is the second.
abbrev pub TakesLine : {S : Type 0} → source.Ghosts S → ReportReader → S → ReportLine → ReportReader → S → Type 0
TakesLine d r before line s after = GivesLine (left r (d.left before)) r line (left s (d.left after)) s

-- It took a line that is shown so, with the bytes of a message or without them.
abbrev pub TakesShown : {S : Type 0} → source.Ghosts S → Bool → ReportReader → S → ReportLine → ReportReader → S → Type 0
TakesShown d keeps r before line s after = (parsed : ReportLine) × IsShown keeps parsed line × TakesLine d r before parsed s after

-- No byte is left, and the report may end there.
abbrev pub IsAtReportEnd : {S : Type 0} → source.Ghosts S → ReportReader → S → Type 0
IsAtReportEnd d r before = IsAtEnd (left r (d.left before)) × IsTrue (may_end r.part)

-- No line was taken, for this fault.
abbrev pub TakesNoLine : {S : Type 0} → source.Ghosts S → ReportFault → ReportReader → S → S → Type 0
TakesNoLine d e r before after = IsLineFault e r (left r (d.left before)) (d.left after) (SourceFailed d before after)
