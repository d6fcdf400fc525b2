-- The report's lines of answers, whose versions are known by their numbers.
use Rattle.std.specs.Prelude.{List, map}
use Rattle.resolvo_text.specs.Line.{Version}
use Rattle.resolvo_catalogue_core.specs.Kept.{nth}
use Rattle.resolve_order.specs.declared.entry.Reason.{Reason}
use Rattle.resolve_order.specs.declared.entry.Reason.TheVariants as reason
use Rattle.resolve_order.specs.declared.entry.Answer.{Answer}
use Rattle.resolve_order.specs.declared.entry.Answer.TheVariants as answer
use Rattle.resolvo_report.specs.Value as value

-- the line of an entry by its reason
abbrev pub entry_for : List Version → Version → Reason → value.AnswerLine
entry_for versions v (reason.ForRequest line) = value.Entry v value.OfRequest line
entry_for versions v (reason.ForVersion owner line) = value.Entry v (value.OfVersion (nth versions owner)) line
entry_for versions v (reason.Wished line) = value.Wished v line

abbrev pub line_for : List Version → Answer → value.AnswerLine
line_for versions (answer.Entry e) = entry_for versions (nth versions e.version) e.reason
line_for versions (answer.LeftOut version line step) = value.LeftOut (nth versions version) line step

abbrev pub lines_for : List Version → List Answer → List value.AnswerLine
lines_for versions answers = map (line_for versions) answers
