-- Equality of limits and of nodes.
use Rattle.std.specs.Prelude.{◌==◌, ◌&&◌, Bool, true, false, Option, Some, None}
use Rattle.resolvo_pool_core.specs.declared.id.VersionSetId.{VersionSetId}
use Rattle.resolvo_graph.specs.declared.graph.ConflictNode.{ConflictNode}
use Rattle.resolvo_graph.specs.declared.graph.ConflictNode.TheVariants.{Root, Solvable, UnresolvedDependency, Excluded}
use Rattle.resolvo_graph.specs.Tree.{same_set}

-- the same parent: the root, or one solvable
abbrev pub same_parent : {S : Type 0} → (S → S → Bool) → Option S → Option S → Bool
same_parent same None None = true
same_parent same None (Some t) = false
same_parent same (Some s) None = false
same_parent same (Some s) (Some t) = same s t

-- the same parent, version set and solvable
abbrev pub same_limited : {S : Type 0} → (S → S → Bool) → Option S × VersionSetId × S → Option S × VersionSetId × S → Bool
same_limited same a b = same_parent same a.0 b.0 && same_set a.1 b.1 && same a.2 b.2

-- the same node of a graph
abbrev pub same_node : {S : Type 0} → (S → S → Bool) → ConflictNode S → ConflictNode S → Bool
same_node same Root Root = true
same_node same Root (Solvable t) = false
same_node same Root UnresolvedDependency = false
same_node same Root (Excluded w) = false
same_node same (Solvable s) Root = false
same_node same (Solvable s) (Solvable t) = same s t
same_node same (Solvable s) UnresolvedDependency = false
same_node same (Solvable s) (Excluded w) = false
same_node same UnresolvedDependency Root = false
same_node same UnresolvedDependency (Solvable t) = false
same_node same UnresolvedDependency UnresolvedDependency = true
same_node same UnresolvedDependency (Excluded w) = false
same_node same (Excluded v) Root = false
same_node same (Excluded v) (Solvable t) = false
same_node same (Excluded v) UnresolvedDependency = false
same_node same (Excluded v) (Excluded w) = v.0 == w.0
