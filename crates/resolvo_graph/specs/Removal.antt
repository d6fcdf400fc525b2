-- The graph without an unused unresolved node.
use Rattle.std.specs.Prelude.{ℕ, ◌==◌, ◌-◌, ◌||◌, Bool, Option, None, Some, cond, length, map, swap_remove}
use Rattle.std.specs.List.{list_any}
use Rattle.resolvo_graph.specs.declared.graph.NodeIndex.{NodeIndex}
use Rattle.resolvo_graph.specs.declared.graph.ConflictNode.TheVariants.{UnresolvedDependency}
use Rattle.resolvo_graph.specs.declared.graph.Edge.{Edge}
use Rattle.resolvo_graph.specs.Graph.{Graph, leaves, enters, unresolved_of}

-- the edge enters or leaves the node
abbrev pub touches : {S : Type 0} → NodeIndex → Edge S → Bool
touches n e = leaves n e || enters n e

abbrev pub has_edge_at : {S : Type 0} → Graph S → NodeIndex → Bool
has_edge_at g n = list_any (touches n) g.edges

-- the index of a node after the node at last was moved to place
abbrev pub moved : ℕ → ℕ → NodeIndex → NodeIndex
moved last place n = record { 0 = cond (n.0 == last) place n.0 }

abbrev pub with_ends_moved : {S : Type 0} → ℕ → ℕ → Edge S → Edge S
with_ends_moved last place e = record { source = moved last place e.source; target = moved last place e.target; weight = e.weight }

-- the graph without the node of this index, which the last node gets
abbrev pub without_unresolved : {S : Type 0} → Graph S → NodeIndex → Graph S
without_unresolved g n = record { nodes = swap_remove g.nodes n.0 UnresolvedDependency; edges = map (with_ends_moved (length g.nodes - 1) n.0) g.edges }

abbrev pub unless_used : {S : Type 0} → Graph S → Option NodeIndex → Graph S
unless_used g None = g
unless_used g (Some n) = cond (has_edge_at g n) g (without_unresolved g n)

-- without the unresolved node, unless an edge is at it
abbrev pub without_unused_unresolved : {S : Type 0} → Graph S → Graph S
without_unused_unresolved g = unless_used g (unresolved_of g)
