use Rattle.std.proofs.Common.{take}
use Rattle.std.specs.Fmt.{HasWritten, IsPlainFormatter}
use Rattle.resolvo_report.specs.Pieces.{with_bars}
use Rattle.resolvo_report.proofs.text.AlternativesDisplay.fmt.Given as goal

abbrev pub invariant-loop-spec : goal.invariant-loop-spec
invariant-loop-spec g l = IsPlainFormatter l.initial.f → HasWritten g.W.Write.write_str_gives l.initial.f (with_bars (take l.spec-index l.others)) l.f
