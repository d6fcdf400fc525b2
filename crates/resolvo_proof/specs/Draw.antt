-- The graph that the links of a conflict draw.
use Rattle.std.specs.Prelude.{Bool, List, [], ◌∷◌, map}
use Rattle.std.specs.List.{flat_map, position_or_len}
use Rattle.std.specs.Option.{option_to_list}
use Rattle.indexmap.specs.IndexSet.{insert_all}
use Rattle.resolvo_pool_core.specs.declared.requirement.Requirement.{Requirement}
use Rattle.resolvo_graph.specs.declared.graph.NodeIndex.{NodeIndex}
use Rattle.resolvo_graph.specs.declared.graph.ConflictNode.{ConflictNode}
use Rattle.resolvo_graph.specs.declared.graph.ConflictNode.TheVariants.{Root, UnresolvedDependency}
use Rattle.resolvo_graph.specs.declared.graph.Edge.{Edge}
use Rattle.resolvo_graph.specs.Graph.{Graph}
use Rattle.resolvo_graph.specs.Removal.{without_unused_unresolved}
use Rattle.resolvo_proof.specs.declared.step.ProofRule.{ProofRule}
use Rattle.resolvo_proof.specs.declared.link.Link.{Link}
use Rattle.resolvo_proof.specs.Tests.{same_node}
use Rattle.resolvo_proof.specs.Links.{source_of, target_of, weight_of, ends_of}
use Rattle.resolvo_proof.specs.LinkRules.{all_links, each_limit_once}

module _ {S : Type 0} (same : S → S → Bool) where
  -- the root, the node of requirements without candidates, and the others in the order of the
  -- links, each once
  abbrev pub nodes_of : List (Link S) → List (ConflictNode S)
  nodes_of links = insert_all (same_node same) (Root ∷ UnresolvedDependency ∷ []) (flat_map ends_of links)

  -- the place of a node among these
  abbrev pub index_among : List (ConflictNode S) → ConflictNode S → NodeIndex
  index_among nodes n = record { 0 = position_or_len (same_node same n) nodes }

  abbrev pub edge_from : List (ConflictNode S) → Link S → ConflictNode S → Edge S
  edge_from nodes l source = record { source = index_among nodes source; target = index_among nodes (target_of l); weight = weight_of l }

  -- the edge of a link among these nodes; the first version of a package has none
  abbrev pub edges_in : List (ConflictNode S) → Link S → List (Edge S)
  edges_in nodes l = map (edge_from nodes l) (option_to_list (source_of l))

  -- the graph of links: their nodes, and their edges in their order
  abbrev pub drawn : List (Link S) → Graph S
  drawn links = record { nodes = nodes_of links; edges = flat_map (edges_in (nodes_of links)) links }

-- the graph of a conflict's rules: that of their links, without the node of requirements without
-- candidates, unless an edge is at it
unfoldable pub conflict_drawing : {N S : Type 0} → (N → N → Bool) → (S → S → Bool) → (S → N) → (Requirement → List S) → List (ProofRule N S) → Graph S
conflict_drawing same_name same package_of offered rules = without_unused_unresolved (drawn same (each_limit_once same (all_links same_name package_of offered rules)))
