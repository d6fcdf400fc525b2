-- The nodes that can be installed, and those that miss a candidate.
use Rattle.std.specs.Prelude.{◌&&◌, not, Bool, List, [], ◌∷◌, ◌++◌, Option, None, Some, cond}
use Rattle.std.specs.List.{list_any, list_all}
use Rattle.resolvo_graph.specs.declared.graph.NodeIndex.{NodeIndex}
use Rattle.resolvo_graph.specs.Graph.{Graph, edges_of, is_unresolved_at, is_excluding, is_in_conflict, unresolved_of}
use Rattle.resolvo_graph.specs.Walk.{is_among}
use Rattle.resolvo_graph.specs.Runs.{Run, runs_of}

-- the nodes marked along an order; the test of a node may use the marked nodes before it
abbrev pub marked_along : (List NodeIndex → NodeIndex → Bool) → List NodeIndex → List NodeIndex → List NodeIndex
marked_along test marked [] = marked
marked_along test marked (n ∷ ns) = marked_along test (cond (test marked n) (cond (is_among marked n) marked (marked ++ n ∷ [])) marked) ns

-- some target of the run is among these
abbrev pub has_target_in : List NodeIndex → Run → Bool
has_target_in ns r = list_any (is_among ns) r.targets

-- all targets of the run are among these
abbrev pub has_targets_in : List NodeIndex → Run → Bool
has_targets_in ns r = list_all (is_among ns) r.targets

module _ {S : Type 0} (g : Graph S) where
  -- it is no unresolved node, no reason and in no conflict; each of its runs has a marked target
  abbrev pub can_be_installed : List NodeIndex → NodeIndex → Bool
  can_be_installed marked n = not (is_unresolved_at g n) && (not (is_excluding g n) && (not (is_in_conflict g n) && list_all (has_target_in marked) (runs_of (edges_of g n))))

  abbrev pub installable_in : List NodeIndex → List NodeIndex
  installable_in order = marked_along can_be_installed [] order

  -- it has no conflict, and all targets of one of its runs are marked
  abbrev pub misses_one : List NodeIndex → NodeIndex → Bool
  misses_one marked n = not (is_in_conflict g n) && list_any (has_targets_in marked) (runs_of (edges_of g n))

  abbrev pub missing_after : Option NodeIndex → List NodeIndex → List NodeIndex
  missing_after None order = []
  missing_after (Some u) order = marked_along misses_one (u ∷ []) order

  abbrev pub missing_in : List NodeIndex → List NodeIndex
  missing_in order = missing_after (unresolved_of g) order
