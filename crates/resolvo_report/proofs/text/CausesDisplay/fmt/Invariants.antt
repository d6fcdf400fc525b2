use Rattle.std.proofs.Common.{take}
use Rattle.std.specs.Fmt.{HasWritten, IsPlainFormatter}
use Rattle.resolvo_report.specs.Pieces.{causes_text}
use Rattle.resolvo_report.proofs.text.CausesDisplay.fmt.Given as goal

abbrev pub invariant-loop-number : goal.invariant-loop-number
invariant-loop-number g l = IsPlainFormatter l.initial.f → HasWritten g.W.Write.write_str_gives l.initial.f (causes_text (take l.number-index l.number-items)) l.f
