use Rattle.std.proofs.Common.{take}
use Rattle.resolvo_report.specs.View.{steps_of}
use Rattle.resolvo_report.specs.Text.{lines_text, numbered}
use Rattle.resolvo_report.specs.Write.{WritesText}
use Rattle.resolvo_report.proofs.write.write_steps.Given as goal

abbrev pub invariant-loop-i : goal.invariant-loop-i
invariant-loop-i g l = WritesText g.S.Sink l.fn.sink l.sink (lines_text (take l.i (numbered 1 (steps_of l.steps))))
