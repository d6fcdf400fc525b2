-- Nodes that are marked along an order, one after the other.
use Rattle.std.proofs.Common.{◌≡◌, ℕ, ◌+◌, ◌<◌, Bool, true, false, cond, List, [], ◌∷◌, ◌++◌, drop, get_or, length, refl, sym, ap, ◌∙◌}
use Rattle.std.specs.Prelude.{◌&&◌, not}
use Rattle.std.specs.List.{list_any}
use Rattle.resolvo_graph.specs.declared.graph.Edge.{Edge}
use Rattle.resolvo_graph.specs.declared.graph.NodeIndex.{NodeIndex}
use Rattle.resolvo_graph.specs.Graph.{Graph, edges_of, is_conflict, is_in_conflict}
use Rattle.resolvo_graph.specs.Outlook.{marked_along, has_targets_in, misses_one}
use Rattle.resolvo_graph.specs.Runs.{Run, runs_of}
use Rattle.resolvo_graph.specs.Walk.{is_among}
use Rattle.resolvo_graph.proofs.ListLemmas.{left}

module _ (test : List NodeIndex → NodeIndex → Bool) (order : List NodeIndex) (i : ℕ) (d : NodeIndex) (h : i < length order) (all marked now : List NodeIndex) (so : all ≡ marked_along test marked (drop i order)) where
  step : all ≡ marked_along test (cond (test marked (get_or order i d)) (cond (is_among marked (get_or order i d)) marked (marked ++ get_or order i d ∷ [])) marked) (drop (i + 1) order)
  step = so ∙ ap (marked_along test marked) (left order i d (get_or order i d) h refl)

  pub marks : test marked (get_or order i d) ≡ true → now ≡ cond (is_among marked (get_or order i d)) marked (marked ++ get_or order i d ∷ []) → all ≡ marked_along test now (drop (i + 1) order)
  marks passes put = step ∙ ap (λ b. marked_along test (cond b (cond (is_among marked (get_or order i d)) marked (marked ++ get_or order i d ∷ [])) marked) (drop (i + 1) order)) passes ∙ ap (λ ms. marked_along test ms (drop (i + 1) order)) (sym put)

  pub passes_over : test marked (get_or order i d) ≡ false → now ≡ marked → all ≡ marked_along test now (drop (i + 1) order)
  passes_over fails same = step ∙ ap (λ b. marked_along test (cond b (cond (is_among marked (get_or order i d)) marked (marked ++ get_or order i d ∷ [])) marked) (drop (i + 1) order)) fails ∙ ap (λ ms. marked_along test ms (drop (i + 1) order)) (sym same)

pub at_end : (test : List NodeIndex → NodeIndex → Bool) (order : List NodeIndex) (i : ℕ) (all marked : List NodeIndex) → drop i order ≡ [] → all ≡ marked_along test marked (drop i order) → marked ≡ all
at_end test order i all marked none so = sym (so ∙ ap (marked_along test marked) none)

module _ {S : Type 0} (g : Graph S) (n : NodeIndex) (es ds : List (Edge S)) (b : Bool) (of : es ≡ edges_of g n) (same : ds ≡ es) (is : b ≡ list_any (λ e. is_conflict e.weight) ds) where
  conflicts : b ≡ is_in_conflict g n
  conflicts = is ∙ ap (list_any (λ e. is_conflict e.weight)) (same ∙ of)

  -- a node in a conflict misses none
  pub in_conflict : (marked : List NodeIndex) → b ≡ true → false ≡ misses_one g marked n
  in_conflict marked holds = sym (ap (λ u. not u && list_any (has_targets_in marked) (runs_of (edges_of g n))) (sym conflicts ∙ holds))

  pub misses_by : (marked : List NodeIndex) (rs to : List Run) (r : Bool) → b ≡ false → rs ≡ runs_of es → to ≡ rs → r ≡ list_any (has_targets_in marked) to → r ≡ misses_one g marked n
  misses_by marked rs to r fails runs seen so =
      so ∙ ap (list_any (has_targets_in marked)) (seen ∙ runs ∙ ap runs_of of) ∙ ap (λ u. not u && list_any (has_targets_in marked) (runs_of (edges_of g n))) (sym (sym conflicts ∙ fails))
