use Rattle.std.proofs.Common.{◌≡◌, take}
use Rattle.resolvo_graph.specs.Tree.{admitted_in}
use Rattle.resolvo_graph.proofs.tree.all_admitted.Given as goal

abbrev pub invariant-loop-edge : goal.invariant-loop-edge
invariant-loop-edge g l = l.found.items ≡ admitted_in (take l.edge-index l.edges)
