use Rattle.std.proofs.Common.{◌≡◌, ◌++◌, map, take}
use Rattle.resolvo_graph.specs.declared.walk.Step.TheVariants.{Enter}
use Rattle.resolvo_graph.proofs.walk.enter_targets.Given as goal

abbrev pub invariant-loop-edge : goal.invariant-loop-edge
invariant-loop-edge g l = l.stack.items ≡ l.initial.stack.items ++ map (λ e. Enter e.target) (take l.edge-index l.edges)
