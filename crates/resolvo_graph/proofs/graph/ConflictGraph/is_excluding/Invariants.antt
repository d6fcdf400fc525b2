use Rattle.std.proofs.Common.{◌≡◌, ◌+◌, filter, length}
use Rattle.std.specs.List.{list_any}
use Rattle.std.specs.Option.{option_map_or}
use Rattle.resolvo_graph.specs.Graph.{is_exclusion, enters}
use Rattle.resolvo_graph.specs.Links.{edges_in, up_to, IsOn}
use Rattle.resolvo_graph.proofs.graph.ConflictGraph.is_excluding.Given as goal

-- an exclusion is among those from the next one on, if there is one
abbrev pub invariant-loop-next : goal.invariant-loop-next
invariant-loop-next g l = (list_any (λ e. is_exclusion e.weight) (filter (enters l.fn.node) (edges_in l.self-inside.edges.items)) ≡ list_any (λ e. is_exclusion e.weight) (filter (enters l.fn.node) (up_to l.next (edges_in l.self-inside.edges.items)))) × IsOn (enters l.fn.node) (edges_in l.self-inside.edges.items) l.next (length (edges_in l.self-inside.edges.items))

abbrev pub decreases-loop-next : goal.decreases-loop-next
decreases-loop-next g l = option_map_or (λ i. i.0 + 1) l.next 0
