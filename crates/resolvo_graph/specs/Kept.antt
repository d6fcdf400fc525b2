-- The content of a map of merged versions.
use Rattle.std.specs.Prelude.{ℕ, Bool, List, [], Option, slice_get}
use Rattle.std.specs.Option.{option_map, option_map_or}
use Rattle.std.specs.HashMap.{HashMap, get}
use Rattle.std.specs.declared.rc.Rc.{Rc}
use Rattle.std.specs.declared.alloc.Global.{Global}
use Rattle.resolvo_graph.specs.declared.graph.NodeIndex.{NodeIndex}
use Rattle.resolvo_graph.specs.declared.merge.MergedConflictNode.{MergedConflictNode}
use Rattle.resolvo_graph.specs.declared.tree.Findings as code
use Rattle.resolvo_graph.specs.Graph.{Graph}
use Rattle.resolvo_graph.specs.Tree.{Findings}

-- the versions that are merged with this one
abbrev pub merged_with : {S H : Type 0} → (S → S → Bool) → HashMap S (Rc (MergedConflictNode S) Global) H → S → Option (List S)
merged_with eq m s = option_map (λ r. r.value.ids.items) (get eq m s)

-- the versions of the group of this number; none past the last group
abbrev pub ids_at : {S : Type 0} → List (MergedConflictNode S) → ℕ → List S
ids_at groups g = option_map_or (λ n. n.ids.items) (slice_get groups g) []

-- the input of a tree, from the values of the code
abbrev pub findings : {S : Type 0} → (S → S → Bool) → code.Findings S → Findings S
findings same f = record { graph = f.graph.now; same = same; installable = f.installable.keys; merged = merged_with same f.merged.now }
