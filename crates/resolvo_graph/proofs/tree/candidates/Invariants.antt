use Rattle.std.proofs.Common.{◌≡◌, take}
use Rattle.resolvo_graph.specs.Tree.{candidates_at}
use Rattle.resolvo_graph.proofs.tree.candidates.Given as goal

abbrev pub invariant-loop-node : goal.invariant-loop-node
invariant-loop-node g l = l.found.items ≡ candidates_at l.graph (take l.node-index l.nodes)
