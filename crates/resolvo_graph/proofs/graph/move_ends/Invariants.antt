use Rattle.std.proofs.Common.{◌≡◌, ◌++◌, map, take, drop}
use Rattle.resolvo_graph.specs.Links.{linked_with_ends_moved}
use Rattle.resolvo_graph.proofs.graph.move_ends.Given as goal

-- the edges so far are moved
abbrev pub invariant-loop-linked : goal.invariant-loop-linked
invariant-loop-linked g l = l.linked-items ≡ map (linked_with_ends_moved l.last l.place) (take l.linked-index l.initial.linked-items) ++ drop l.linked-index l.initial.linked-items
