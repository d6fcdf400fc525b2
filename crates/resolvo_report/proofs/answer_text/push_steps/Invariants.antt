use Rattle.std.proofs.Common.{◌≡◌, ◌++◌, take}
use Rattle.resolvo_report.specs.View.{steps_of}
use Rattle.resolvo_report.specs.Text.{lines_text, numbered}
use Rattle.resolvo_report.proofs.answer_text.push_steps.Given as goal

-- the lines so far are behind the old bytes
abbrev pub invariant-loop-i : goal.invariant-loop-i
invariant-loop-i l = l.out.items ≡ l.fn.out.items ++ lines_text (take l.i (numbered 1 (steps_of l.steps)))
