use Rattle.std.proofs.Common.{◌+◌, ◌*◌, List, [], ◌∷◌, ◌++◌, All, length, reverse}
use Rattle.resolvo_graph.specs.declared.graph.NodeIndex.{NodeIndex}
use Rattle.resolvo_graph.specs.Walk.{Visits}
use Rattle.resolvo_graph.proofs.WalkLemmas.{entered, unseen, IsKnown, Continues}
use Rattle.resolvo_graph.proofs.walk.Walk.run.Given as goal

-- the nodes of the remaining steps follow the listed ones
abbrev pub invariant-loop-step : goal.invariant-loop-step
invariant-loop-step g l = record {
  known : All (IsKnown (entered l.graph)) l.self.stack.items;
  gives : (rest after : List NodeIndex) → Continues l.graph (reverse l.self.stack.items) l.self.seen.keys rest after → Visits l.graph [] (record { 0 = 0 } ∷ []) (l.self.order.items ++ rest) after;
}

-- each node is entered once, and a step that leaves is popped
abbrev pub decreases-loop-step : goal.decreases-loop-step
decreases-loop-step g l = (length l.graph.edges + 2) * unseen (entered l.graph) l.self.seen.keys + length l.self.stack.items
