use Rattle.std.proofs.Common.{◌≡◌, drop}
use Rattle.resolvo_graph.specs.Outlook.{marked_along, can_be_installed}
use Rattle.resolvo_graph.proofs.installability.mark_installable.Given as goal

-- marking the remaining nodes, from those marked so far, marks the nodes of the whole order
abbrev pub invariant-loop-node : goal.invariant-loop-node
invariant-loop-node g l = marked_along (can_be_installed l.graph) l.initial.marked.keys l.order ≡ marked_along (can_be_installed l.graph) l.marked.keys (drop l.node-index l.order)
