use Rattle.std.proofs.Common.{take, map}
use Rattle.resolvo_report.specs.Value as model
use Rattle.resolvo_report.specs.Text.{lines_text}
use Rattle.resolvo_report.specs.Write.{WritesText}
use Rattle.resolvo_report.proofs.write.write_named.Given as goal

abbrev pub invariant-loop-number : goal.invariant-loop-number
invariant-loop-number g l = WritesText g.S.Sink l.fn.sink l.sink (lines_text (take l.number-index (map model.CatalogueLine l.lines)))
