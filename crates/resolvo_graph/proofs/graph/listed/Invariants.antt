use Rattle.std.proofs.Common.{◌≡◌, ◌++◌}
use Rattle.resolvo_graph.proofs.graph.listed.Given as goal

-- the edges found, with those that are left, are all
abbrev pub invariant-loop-edge : goal.invariant-loop-edge
invariant-loop-edge g l = l.found.items ++ l.edge-iterator ≡ l.initial.edge-iterator
