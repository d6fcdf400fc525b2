use Rattle.std.proofs.Common.{◌≡◌, ◌++◌, length}
use Rattle.resolvo_graph.specs.Message.{conflict_lines}
use Rattle.resolvo_graph.proofs.display_unsat.conflict_lines.Given as goal

abbrev pub invariant-loop-edge : goal.invariant-loop-edge
invariant-loop-edge g l = conflict_lines l.edges ≡ l.lines.items ++ conflict_lines l.rest

abbrev pub decreases-loop-edge : goal.decreases-loop-edge
decreases-loop-edge g l = length l.rest
