-- Linked lists of the edges at a node: each edge is linked to the one before it on the same side.
use Rattle.std.specs.Prelude.{◌≡◌, ℕ, zero, suc, ◌+◌, ◌<◌, ◌==◌, Bool, true, false, cond, List, [], Option, None, Some, length, map, slice_get, slice_index_or, take}
use Rattle.std.specs.Option.{option_map_or}
use Rattle.resolvo_graph.specs.declared.graph.NodeIndex.{NodeIndex}
use Rattle.resolvo_graph.specs.declared.graph.EdgeIndex.{EdgeIndex}
use Rattle.resolvo_graph.specs.declared.graph.Edge.{Edge}
use Rattle.resolvo_graph.specs.declared.links.Side.{Side}
use Rattle.resolvo_graph.specs.declared.links.Side.TheVariants.{Leaving, Entering}
use Rattle.resolvo_graph.specs.declared.links.Links.{Links}
use Rattle.resolvo_graph.specs.declared.links.LinkedEdge.{LinkedEdge}
use Rattle.resolvo_graph.specs.Graph.{same_node}
use Rattle.resolvo_graph.specs.Removal.{with_ends_moved}

-- the end of an edge on this side
abbrev pub end_on : {S : Type 0} → Side → Edge S → NodeIndex
end_on Leaving e = e.source
end_on Entering e = e.target

-- the edge is at the node, on this side
abbrev pub is_at : {S : Type 0} → Side → NodeIndex → Edge S → Bool
is_at side n e = same_node (end_on side e) n

abbrev pub link_on : Side → Links → Option EdgeIndex
link_on Leaving l = l.leaving
link_on Entering l = l.entering

abbrev pub no_links : Links
no_links = record { leaving = None; entering = None }

-- the links of a node, none past the end
abbrev pub links_of : List Links → ℕ → Links
links_of ls n = slice_index_or ls n no_links

abbrev pub edges_in : {S : Type 0} → List (LinkedEdge S) → List (Edge S)
edges_in ls = map (λ l. l.edge) ls

abbrev pub holds_at : {S : Type 0} → (Edge S → Bool) → List (Edge S) → ℕ → Bool
holds_at p es n = option_map_or p (slice_get es n) false

-- the last of the first n edges of which p holds
abbrev pub newest_of : {S : Type 0} → (Edge S → Bool) → List (Edge S) → ℕ → Option EdgeIndex
newest_of p es zero = None
newest_of p es (suc n) = cond (holds_at p es n) (Some (record { 0 = n })) (newest_of p es n)

-- the edges up to this one
abbrev pub up_to : {S : Type 0} → Option EdgeIndex → List (Edge S) → List (Edge S)
up_to None es = []
up_to (Some i) es = take (i.0 + 1) es

-- a node is linked to its newest edges, an edge to the one before it at its node on its side
pub record AreLinked {S : Type 0} (newest : List Links) (edges : List (LinkedEdge S)) : Type 0 where
  pub newest_are : (side : Side) (n : ℕ) → link_on side (links_of newest n) ≡ newest_of (is_at side (record { 0 = n })) (edges_in edges) (length (edges_in edges))
  pub older_are : (side : Side) (i : ℕ) (l : LinkedEdge S) → slice_get edges i ≡ Some l → link_on side l.older ≡ newest_of (is_at side (end_on side l.edge)) (edges_in edges) i

-- the edge with its ends moved from the index last to the index place
abbrev pub linked_with_ends_moved : {S : Type 0} → ℕ → ℕ → LinkedEdge S → LinkedEdge S
linked_with_ends_moved last place l = record { edge = with_ends_moved last place l.edge; older = l.older }

-- the index n after a swap of a and b
abbrev pub exchanged : ℕ → ℕ → ℕ → ℕ
exchanged a b n = cond (n == a) b (cond (n == b) a n)

module _ {S : Type 0} (p : Edge S → Bool) (es : List (Edge S)) where
  -- the edge of this index, if there is one, is before n, and p holds of it
  abbrev pub IsOn : Option EdgeIndex → ℕ → Type 0
  IsOn None n = Unit {0}
  IsOn (Some i) n = (i.0 < n) × (holds_at p es i.0 ≡ true)
