use Rattle.std.proofs.Common.{◌≡◌, drop}
use Rattle.resolvo_graph.specs.Tree.{reason_in}
use Rattle.resolvo_graph.proofs.tree.reason.Given as goal

-- no edge so far is an exclusion with a reason
abbrev pub invariant-loop-edge : goal.invariant-loop-edge
invariant-loop-edge g l = reason_in l.graph l.edges ≡ reason_in l.graph (drop l.edge-index l.edges)
