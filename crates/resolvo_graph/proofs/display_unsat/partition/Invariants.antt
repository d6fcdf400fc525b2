use Rattle.std.proofs.Common.{◌≡◌, take, filter}
use Rattle.resolvo_graph.specs.Message.{misses, fits}
use Rattle.resolvo_graph.proofs.display_unsat.partition.Given as goal

abbrev pub invariant-loop-edge : goal.invariant-loop-edge
invariant-loop-edge g l = record {
  missing : l.without.items ≡ filter (misses l.missing.keys) (take l.edge-index l.edges);
  others : l.others.items ≡ filter (fits l.missing.keys) (take l.edge-index l.edges);
}
