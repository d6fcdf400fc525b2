use Rattle.std.proofs.Common.{◌≡◌, drop}
use Rattle.resolvo_graph.specs.Graph.{unresolved_of, first_unresolved}
use Rattle.resolvo_graph.proofs.graph.ConflictGraph.unresolved_node.Given as goal

abbrev pub invariant-loop-index : goal.invariant-loop-index
invariant-loop-index g l = unresolved_of l.self ≡ first_unresolved l.index (drop l.index l.node-items)
