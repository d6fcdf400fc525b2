use Rattle.std.proofs.Common.{take, map}
use Rattle.resolvo_report.specs.Value as model
use Rattle.resolvo_report.specs.View.{answer_lines_of}
use Rattle.resolvo_report.specs.Text.{lines_text}
use Rattle.resolvo_report.specs.Write.{WritesText}
use Rattle.resolvo_report.proofs.write.write_answers.Given as goal

abbrev pub invariant-loop-line : goal.invariant-loop-line
invariant-loop-line g l = WritesText g.S.Sink l.fn.sink l.sink (lines_text (take l.line-index (map model.Answer (answer_lines_of l.lines))))
