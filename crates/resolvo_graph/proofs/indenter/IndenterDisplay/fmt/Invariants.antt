use Rattle.std.proofs.Common.{take}
use Rattle.std.specs.List.{flat_map}
use Rattle.std.specs.Fmt.{HasWritten, IsPlainFormatter}
use Rattle.resolvo_graph.specs.Indent.{levels_in, sign_above}
use Rattle.resolvo_graph.proofs.indenter.IndenterDisplay.fmt.Given as goal

-- the output is the signs of the levels above so far
abbrev pub invariant-loop-stretch : goal.invariant-loop-stretch
invariant-loop-stretch g l = IsPlainFormatter l.initial.f → HasWritten g.W.Write.write_str_gives l.initial.f (flat_map (λ s. flat_map sign_above (levels_in s)) (take l.stretch-index l.above)) l.f
