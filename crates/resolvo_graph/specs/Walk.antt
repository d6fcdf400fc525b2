-- The walk in post-order: depth first, the oldest edge first, a node after its targets.
use Rattle.std.specs.Prelude.{◌≡◌, Bool, true, false, List, [], ◌∷◌, ◌++◌}
use Rattle.std.specs.List.{list_any}
use Rattle.resolvo_graph.specs.declared.graph.NodeIndex.{NodeIndex}
use Rattle.resolvo_graph.specs.Graph.{Graph, neighbours, same_node}

-- the node is among these
abbrev pub is_among : List NodeIndex → NodeIndex → Bool
is_among ns n = list_any (same_node n) ns

-- from the seen nodes, a visit of some nodes lists these nodes, and these are seen after it
pub data Visits {S : Type 0} (g : Graph S) : List NodeIndex → List NodeIndex → List NodeIndex → List NodeIndex → Type 0 where
  -- no node is left
  done : (seen : List NodeIndex) → Visits g seen [] [] seen
  -- a seen node isn't visited again
  again : {n : NodeIndex} {ns seen given after : List NodeIndex} → is_among seen n ≡ true → Visits g seen ns given after → Visits g seen (n ∷ ns) given after
  -- a node is listed after its neighbours
  first : {n : NodeIndex} {ns seen inner between rest after : List NodeIndex} → is_among seen n ≡ false → Visits g (seen ++ n ∷ []) (neighbours g n) inner between → Visits g between ns rest after → Visits g seen (n ∷ ns) (inner ++ n ∷ rest) after

-- the nodes that the root reaches, in post-order
abbrev pub IsPostOrder : {S : Type 0} → Graph S → List NodeIndex → Type 0
IsPostOrder g order = (seen : List NodeIndex) × Visits g [] (record { 0 = 0 } ∷ []) order seen
