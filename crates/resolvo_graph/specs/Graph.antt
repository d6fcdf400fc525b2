-- The conflict graph as the list of its nodes and the list of its edges, with its queries.
use Rattle.std.specs.Prelude.{ℕ, ◌+◌, ◌==◌, ◌<◌, ◌&&◌, cond, Bool, true, false, List, [], ◌∷◌, Option, Some, None, filter, length, map, reverse, slice_get}
use Rattle.std.specs.List.{list_any}
use Rattle.resolvo_pool_core.specs.declared.id.VersionSetId.{VersionSetId}
use Rattle.resolvo_pool_core.specs.declared.requirement.Requirement.{Requirement}
use Rattle.resolvo_graph.specs.declared.graph.NodeIndex.{NodeIndex}
use Rattle.resolvo_graph.specs.declared.graph.ConflictNode.{ConflictNode}
use Rattle.resolvo_graph.specs.declared.graph.ConflictNode.TheVariants as Nodes
use Rattle.resolvo_graph.specs.declared.graph.ConflictCause.TheVariants.{Locked, Constrains, ForbidMultipleInstances, Excluded}
use Rattle.resolvo_graph.specs.declared.graph.ConflictEdge.{ConflictEdge}
use Rattle.resolvo_graph.specs.declared.graph.ConflictEdge.TheVariants.{Requires, Conflict}
use Rattle.resolvo_graph.specs.declared.graph.Edge.{Edge}

pub record Graph (S : Type 0) : Type 0 where
  pub nodes : List (ConflictNode S)
  pub edges : List (Edge S)

-- both ends of the edge are nodes
abbrev pub IsWithin : {S : Type 0} → List (ConflictNode S) → Edge S → Type 0
IsWithin nodes e = (e.source.0 < length nodes) × (e.target.0 < length nodes)

-- the indexes are equal
abbrev pub same_node : NodeIndex → NodeIndex → Bool
same_node a b = a.0 == b.0

abbrev pub leaves : {S : Type 0} → NodeIndex → Edge S → Bool
leaves n e = same_node e.source n

abbrev pub enters : {S : Type 0} → NodeIndex → Edge S → Bool
enters n e = same_node e.target n

-- the requirement of an edge, if it is not a conflict
abbrev pub requirement_of : {S : Type 0} → ConflictEdge S → Option Requirement
requirement_of (Requires q) = Some q
requirement_of (Conflict c) = None

abbrev pub is_conflict : {S : Type 0} → ConflictEdge S → Bool
is_conflict (Requires q) = false
is_conflict (Conflict c) = true

abbrev pub is_exclusion : {S : Type 0} → ConflictEdge S → Bool
is_exclusion (Requires q) = false
is_exclusion (Conflict Excluded) = true
is_exclusion (Conflict (Locked s)) = false
is_exclusion (Conflict (Constrains v)) = false
is_exclusion (Conflict ForbidMultipleInstances) = false

abbrev pub is_forbidden : {S : Type 0} → ConflictEdge S → Bool
is_forbidden (Requires q) = false
is_forbidden (Conflict ForbidMultipleInstances) = true
is_forbidden (Conflict Excluded) = false
is_forbidden (Conflict (Locked s)) = false
is_forbidden (Conflict (Constrains v)) = false

-- the version set that the source admits alone
abbrev pub admitted_by : {S : Type 0} → ConflictEdge S → Option VersionSetId
admitted_by (Requires q) = None
admitted_by (Conflict (Constrains v)) = Some v
admitted_by (Conflict Excluded) = None
admitted_by (Conflict (Locked s)) = None
admitted_by (Conflict ForbidMultipleInstances) = None

abbrev pub is_unresolved : {S : Type 0} → ConflictNode S → Bool
is_unresolved Nodes.Root = false
is_unresolved (Nodes.Solvable s) = false
is_unresolved Nodes.UnresolvedDependency = true
is_unresolved (Nodes.Excluded why) = false

abbrev pub is_some_unresolved : {S : Type 0} → Option (ConflictNode S) → Bool
is_some_unresolved None = false
is_some_unresolved (Some n) = is_unresolved n

-- the first unresolved node, where the nodes are numbered from k
abbrev pub first_unresolved : {S : Type 0} → ℕ → List (ConflictNode S) → Option NodeIndex
first_unresolved k [] = None
first_unresolved k (n ∷ ns) = cond (is_unresolved n) (Some (record { 0 = k })) (first_unresolved (k + 1) ns)

module _ {S : Type 0} (g : Graph S) where
  -- the edges that leave a node, the newest first
  abbrev pub edges_of : NodeIndex → List (Edge S)
  edges_of n = reverse (filter (leaves n) g.edges)

  -- the edges that enter a node, the oldest first
  abbrev pub edges_to : NodeIndex → List (Edge S)
  edges_to n = filter (enters n) g.edges

  -- the targets of a node's edges, the oldest first
  abbrev pub neighbours : NodeIndex → List NodeIndex
  neighbours n = map (λ e. e.target) (filter (leaves n) g.edges)

  abbrev pub is_unresolved_at : NodeIndex → Bool
  is_unresolved_at n = is_some_unresolved (slice_get g.nodes n.0)

  -- the unresolved node, if there is one
  abbrev pub unresolved_of : Option NodeIndex
  unresolved_of = first_unresolved 0 g.nodes

  -- the node is the reason of an exclusion
  abbrev pub is_excluding : NodeIndex → Bool
  is_excluding n = list_any (λ e. enters n e && is_exclusion e.weight) g.edges

  -- an edge that leaves the node is a conflict
  abbrev pub is_in_conflict : NodeIndex → Bool
  is_in_conflict n = list_any (λ e. is_conflict e.weight) (edges_of n)
