-- The models of a report, a line, a step and their parts.
use Rattle.std.specs.Prelude.{ℕ, List, map}
use Rattle.std.specs.String.{string_bytes}
use Rattle.std.specs.Global.{Vec}
use Rattle.resolvo_text.specs.Line.{Version}
use Rattle.resolvo_text.specs.View.{version_of, spec_of, specs_of}
use Rattle.resolvo_report.specs.Value as model
use Rattle.resolvo_report.specs.declared.answer_text.VersionRef.{VersionRef}
use Rattle.resolvo_report.specs.declared.step.Place.{Place}
use Rattle.resolvo_report.specs.declared.step.Place.TheVariants as place
use Rattle.resolvo_report.specs.declared.step.Atom.{Atom}
use Rattle.resolvo_report.specs.declared.step.Atom.TheVariants as atom
use Rattle.resolvo_report.specs.declared.step.Literal.{Literal}
use Rattle.resolvo_report.specs.declared.step.Step.{Step}
use Rattle.resolvo_report.specs.declared.step.Step.TheVariants as step
use Rattle.resolvo_report.specs.declared.report.AnswerLine.{AnswerLine}
use Rattle.resolvo_report.specs.declared.report.AnswerLine.TheVariants as answer
use Rattle.resolvo_report.specs.declared.report.Report.{Report}
use Rattle.resolvo_report.specs.declared.report.Report.TheVariants as report
use Rattle.resolvo_report.specs.declared.report.ReportLine.{ReportLine}
use Rattle.resolvo_report.specs.declared.report.ReportLine.TheVariants as line

-- a version with a borrowed name
abbrev pub version_by_ref : VersionRef → Version
version_by_ref v = record { name = v.name.now; number = v.number }

abbrev pub place_of : Place → model.Place
place_of place.Request = model.OfRequest
place_of (place.Version v) = model.OfVersion (version_of v)

abbrev pub atom_of : Atom → model.Atom
atom_of (atom.Version v) = model.Chosen (version_of v)
atom_of (atom.Any name) = model.AnyOf (string_bytes name)
atom_of (atom.Shared alternatives) = model.SharedBy (specs_of alternatives.items)
atom_of (atom.Outside spec) = model.OutsideOf (spec_of spec)
atom_of (atom.Matches spec) = model.MatchesOf (spec_of spec)
atom_of (atom.Bit bit name) = model.BitOf bit (string_bytes name)

abbrev pub literal_of : Literal → model.Literal
literal_of l = record { atom = atom_of l.atom; positive = l.positive }

abbrev pub literals_of : List Literal → List model.Literal
literals_of ls = map literal_of ls

abbrev pub step_of : Step → model.Step
step_of (step.Need place line case) = model.Need (place_of place) line case
step_of (step.Gate v line) = model.Gate (version_of v) line
step_of (step.Shared alternatives) = model.Shared (specs_of alternatives.items)
step_of (step.LimitBars place line v) = model.LimitBars (place_of place) line (version_of v)
step_of (step.Limit place line) = model.Limit (place_of place) line
step_of (step.Outside spec v) = model.Outside (spec_of spec) (version_of v)
step_of (step.Matches spec v) = model.Matches (spec_of spec) (version_of v)
step_of (step.Lock line v) = model.Lock line (version_of v)
step_of (step.Exclude line) = model.Exclude line
step_of (step.Unknown line) = model.Unknown line
step_of (step.Digit v place bit) = model.Digit (version_of v) place bit
step_of (step.Any v) = model.Any (version_of v)
step_of (step.Derive literals causes) = model.Derive (literals_of literals.items) causes.items

abbrev pub steps_of : List Step → List model.Step
steps_of ss = map step_of ss

abbrev pub answer_line_of : AnswerLine → model.AnswerLine
answer_line_of (answer.Entry v place line) = model.Entry (version_of v) (place_of place) line
answer_line_of (answer.Wished v line) = model.Wished (version_of v) line
answer_line_of (answer.LeftOut v line step) = model.LeftOut (version_of v) line step

abbrev pub answer_lines_of : List AnswerLine → List model.AnswerLine
answer_lines_of ls = map answer_line_of ls

abbrev pub messages_of : List (Vec ℕ) → List (List ℕ)
messages_of ms = map (λ m. m.items) ms

abbrev pub report_of : Report → model.Report
report_of (report.Install lines steps) = model.Install (answer_lines_of lines.items) (steps_of steps.items)
report_of (report.Refused catalogue request steps message) = model.Refused catalogue.items request.items (steps_of steps.items) (messages_of message.items)

abbrev pub report_line_of : ReportLine → model.ReportLine
report_line_of line.Install = model.InstallHead
report_line_of line.Refused = model.RefusedHead
report_line_of (line.Answer answer) = model.Answer (answer_line_of answer)
report_line_of (line.Catalogue n) = model.CatalogueLine n
report_line_of (line.Request n) = model.RequestLine n
report_line_of (line.Step number step) = model.Numbered number (step_of step)
report_line_of (line.Message bytes) = model.Message bytes.items
