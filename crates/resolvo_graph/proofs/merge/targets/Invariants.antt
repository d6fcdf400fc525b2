use Rattle.std.proofs.Common.{◌≡◌, map, take}
use Rattle.resolvo_graph.specs.Graph.{requirement_of}
use Rattle.resolvo_graph.proofs.merge.targets.Given as goal

abbrev pub invariant-loop-edge : goal.invariant-loop-edge
invariant-loop-edge g l = l.found.items ≡ map (λ e. (requirement_of e.weight, e.target)) (take l.edge-index l.edges)
