use Rattle.std.proofs.Common.{take}
use Rattle.std.specs.Fmt.{HasWritten, IsPlainFormatter}
use Rattle.resolvo_report.specs.Pieces.{parted}
use Rattle.resolvo_report.proofs.text.ClauseDisplay.fmt.Given as goal

abbrev pub invariant-loop-literal : goal.invariant-loop-literal
invariant-loop-literal g l = IsPlainFormatter l.initial.f → HasWritten g.W.Write.write_str_gives l.initial.f (parted (take l.literal-index l.others)) l.f
