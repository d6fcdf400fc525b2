-- Lines as they are shown: those of a message with their bytes, or without them.
use Rattle.std.specs.Prelude.{◌≡◌, ◌⊎◌, ℕ, Bool, true, false, List, [], Option, Some, Result, Ok, Err}
use Rattle.resolvo_text.specs.declared.line.LineFault.{LineFault}
use Rattle.resolvo_text.specs.Parse.{Fails}
use Rattle.resolvo_report.specs.declared.report.ReportLine as code
use Rattle.resolvo_report.specs.Value.{ReportLine, Message}
use Rattle.resolvo_report.specs.View.{report_line_of}

-- the line of the text; or else it is that, or a line of a message without its bytes
abbrev pub IsShown : Bool → ReportLine → ReportLine → Type 0
IsShown true parsed line = parsed ≡ line
IsShown false parsed line = (parsed ≡ line) ⊎ ((bytes : List ℕ) × (parsed ≡ Message bytes) × (line ≡ Message []))

-- The function's line shows the one in the text.
abbrev pub Shows : Bool → Result code.ReportLine LineFault → Option ReportLine → Type 0
Shows keeps (Ok line) read = (parsed : ReportLine) × (read ≡ Some parsed) × IsShown keeps parsed (report_line_of line)
Shows keeps (Err e) read = Fails e read
