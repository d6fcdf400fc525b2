-- The ends of a link, and the weight of its edge.
use Rattle.std.specs.Prelude.{List, [], ◌∷◌, ◌++◌, Option, Some, None}
use Rattle.std.specs.Option.{option_to_list}
use Rattle.resolvo_graph.specs.declared.graph.ConflictNode.{ConflictNode}
use Rattle.resolvo_graph.specs.declared.graph.ConflictNode.TheVariants as Nodes
use Rattle.resolvo_graph.specs.declared.graph.ConflictCause.TheVariants as Causes
use Rattle.resolvo_graph.specs.declared.graph.ConflictEdge.{ConflictEdge}
use Rattle.resolvo_graph.specs.declared.graph.ConflictEdge.TheVariants as Edges
use Rattle.resolvo_proof.specs.declared.link.Link.{Link}
use Rattle.resolvo_proof.specs.declared.link.Link.TheVariants.{Excluded, Requires, Locked, Instance, Constrains}

-- the node of a parent
abbrev pub parent_node : {S : Type 0} → Option S → ConflictNode S
parent_node None = Nodes.Root
parent_node (Some s) = Nodes.Solvable s

-- the node of a candidate, or that of requirements without candidates
abbrev pub candidate_node : {S : Type 0} → Option S → ConflictNode S
candidate_node None = Nodes.UnresolvedDependency
candidate_node (Some s) = Nodes.Solvable s

abbrev pub version_node : {S : Type 0} → Option S → Option (ConflictNode S)
version_node None = None
version_node (Some s) = Some (Nodes.Solvable s)

-- the source of the edge; the first version of a package has none
abbrev pub source_of : {S : Type 0} → Link S → Option (ConflictNode S)
source_of (Excluded s why) = Some (Nodes.Solvable s)
source_of (Requires parent q candidate) = Some (parent_node parent)
source_of (Locked locked barred) = Some Nodes.Root
source_of (Instance before s) = version_node before
source_of (Constrains parent v s) = Some (parent_node parent)

-- the target of the edge
abbrev pub target_of : {S : Type 0} → Link S → ConflictNode S
target_of (Excluded s why) = Nodes.Excluded why
target_of (Requires parent q candidate) = candidate_node candidate
target_of (Locked locked barred) = Nodes.Solvable barred
target_of (Instance before s) = Nodes.Solvable s
target_of (Constrains parent v s) = Nodes.Solvable s

-- the weight of the edge
abbrev pub weight_of : {S : Type 0} → Link S → ConflictEdge S
weight_of (Excluded s why) = Edges.Conflict Causes.Excluded
weight_of (Requires parent q candidate) = Edges.Requires q
weight_of (Locked locked barred) = Edges.Conflict (Causes.Locked locked)
weight_of (Instance before s) = Edges.Conflict Causes.ForbidMultipleInstances
weight_of (Constrains parent v s) = Edges.Conflict (Causes.Constrains v)

-- the nodes of the edge, its source first
abbrev pub ends_of : {S : Type 0} → Link S → List (ConflictNode S)
ends_of l = option_to_list (source_of l) ++ target_of l ∷ []
