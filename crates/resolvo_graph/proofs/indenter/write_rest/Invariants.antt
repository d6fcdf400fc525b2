use Rattle.std.specs.Prelude.{replicate}
use Rattle.std.specs.List.{flat_map}
use Rattle.std.specs.Fmt.{HasWritten, IsPlainFormatter}
use Rattle.resolvo_graph.specs.Indent.{sign_above}
use Rattle.resolvo_graph.proofs.indenter.write_rest.Given as goal

-- the output is so many signs
abbrev pub invariant-loop : goal.invariant-loop
invariant-loop g l = IsPlainFormatter l.initial.f → HasWritten g.W.Write.write_str_gives l.initial.f (flat_map sign_above (replicate l.counter l.order)) l.f
