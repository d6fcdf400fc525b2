use Rattle.std.proofs.Common.{take, map}
use Rattle.resolvo_report.specs.Value as model
use Rattle.resolvo_report.specs.View.{messages_of}
use Rattle.resolvo_report.specs.Text.{lines_text}
use Rattle.resolvo_report.specs.Write.{WritesText}
use Rattle.resolvo_report.proofs.write.write_message.Given as goal

abbrev pub invariant-loop-bytes : goal.invariant-loop-bytes
invariant-loop-bytes g l = WritesText g.S.Sink l.fn.sink l.sink (lines_text (take l.bytes-index (map model.Message (messages_of l.message))))
