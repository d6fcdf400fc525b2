use Rattle.std.proofs.Common.{◌∙◌, map-id, refl, subst, sym}
use Rattle.std.specs.List.Sorted.{IsPermutation, IsSorted}
use Rattle.std.specs.Vec.Iter.{into_iter_items}
use Rattle.std.proofs.lemmas.Iterator.Adapters.{YieldsList-from_vec}
use Rattle.itertools.proofs.AdaptorLemmas.{items_from_whole_run}
use Rattle.itertools.proofs.SortedLemmas.{IsPermutation-sorted}
use Rattle.resolvo_graph.specs.Merge.{neighbour_cmp}
use Rattle.resolvo_graph.proofs.merge.in_order.Goals as goal

pub returns-clause-order : goal.returns-clause-order
returns-clause-order c =
    let run = c.in_ok-sorted.ensures.sorted in
    let kept = c.in_ok-collect_vec.ensures.runs in
    let same = sym (map-id kept.0.items) ∙ items_from_whole_run (YieldsList-from_vec {s = c.in_ok-sorted.sorted} (into_iter_items c.in_ok-sorted.sorted) refl c.in_ok-sorted.ensures.len) kept.0 kept.1 kept.2 in
    (subst (λ xs. IsPermutation c.args.neighbours.items xs) (sym (kept.3 ∙ same)) (IsPermutation-sorted (YieldsList-from_vec {s = c.into_iter.result} c.args.neighbours.items c.into_iter.ensures.rest (c.into_iter.ensures.len ∙ c.args.neighbours.ok.0)) run.0 run.1 run.2 (into_iter_items c.in_ok-sorted.sorted) run.3.0), subst (λ xs. IsSorted neighbour_cmp xs) (sym (kept.3 ∙ same)) run.3.1)
