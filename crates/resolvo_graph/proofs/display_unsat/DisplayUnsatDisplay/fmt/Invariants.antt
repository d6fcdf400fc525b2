use Rattle.std.proofs.Common.{take}
use Rattle.std.specs.List.{flat_map}
use Rattle.std.specs.Fmt.{HasWritten, IsPlainFormatter}
use Rattle.resolvo_graph.specs.Words.{meaning_by, line_text}
use Rattle.resolvo_graph.proofs.display_unsat.DisplayUnsatDisplay.fmt.Given as goal

-- the output is the text of the lines so far
abbrev pub invariant-loop-line : goal.invariant-loop-line
invariant-loop-line g l = IsPlainFormatter l.initial.f → HasWritten g.W.Write.write_str_gives l.initial.f (flat_map (line_text (meaning_by g.I.Interner l.self.interner.now)) (take l.line-index l.line-items)) l.f
