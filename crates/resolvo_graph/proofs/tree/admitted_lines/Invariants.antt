use Rattle.std.proofs.Common.{◌≡◌, ◌++◌, length}
use Rattle.resolvo_graph.specs.Tree.{admitted_lines}
use Rattle.resolvo_graph.proofs.tree.admitted_lines.Given as goal

abbrev pub invariant-loop-version_set : goal.invariant-loop-version_set
invariant-loop-version_set g l = admitted_lines l.indenter l.version_sets ≡ l.lines.items ++ admitted_lines l.indenter l.rest

abbrev pub decreases-loop-version_set : goal.decreases-loop-version_set
decreases-loop-version_set g l = length l.rest
