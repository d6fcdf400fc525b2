use Rattle.std.proofs.Common.{◌≡◌, take}
use Rattle.resolvo_graph.specs.Runs.{runs_of}
use Rattle.resolvo_graph.proofs.runs.runs.Given as goal

abbrev pub invariant-loop-edge : goal.invariant-loop-edge
invariant-loop-edge g l = l.found.items ≡ runs_of (take l.edge-index l.edges)
