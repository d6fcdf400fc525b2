use Rattle.std.proofs.Common.{◌≡◌, ◌+◌, ◌++◌, ◌∷◌, [], ◌∙◌, ap, sym, take, refl}
use Rattle.std.proofs.lemmas.List.{take_more, append-nil}
use Rattle.resolvo_graph.specs.Graph.{admitted_by}
use Rattle.resolvo_graph.specs.Tree.{admitted_in, with_set}
use Rattle.resolvo_graph.proofs.TreeLemmas.{admitted_in_push}
use Rattle.resolvo_graph.proofs.ListLemmas.{whole}
use Rattle.resolvo_graph.proofs.tree.all_admitted.Goals as goal
use Rattle.resolvo_graph.proofs.tree.all_admitted.Goals.{in-Some+in_ok-push, in_default}

pub loop-edge-preserved : goal.loop-edge-preserved
loop-edge-preserved g c =
    let i = c.loop-edge.edge-index in
    let e = c.edge-item.result in
    let es = take i c.args.edges.now in
    let one : take (i + 1) c.args.edges.now ≡ take i c.args.edges.now ++ e ∷ [] = take_more c.args.edges.now i e c.loop-edge-test.true ∙ ap (λ x. take i c.args.edges.now ++ x ∷ []) (sym c.edge-item.is) in
    let more : admitted_in (take (i + 1) c.args.edges.now) ≡ admitted_in es ++ with_set (admitted_by e.weight) [] = ap admitted_in one ∙ admitted_in_push es e in
    elim c.match-admitted.branch [
      | in-Some+in_ok-push w ↦ ap (λ v. v.items) w.found-is ∙ w.in_ok-push.ensures.items ∙ ap (λ xs. xs ++ w.in-Some.version_set ∷ []) c.loop-edge.invariant ∙ ap (λ o. admitted_in es ++ with_set o []) (sym w.in-Some.is ∙ c.admitted.ensures) ∙ sym more
      | in_default w ↦ ap (λ v. v.items) w.found-is ∙ c.loop-edge.invariant ∙ sym (append-nil (admitted_in es)) ∙ ap (λ o. admitted_in es ++ with_set o []) (sym w.in_default.is ∙ c.admitted.ensures) ∙ sym more
    ]

pub returns-clause-version_sets : goal.returns-clause-version_sets
returns-clause-version_sets g c = whole admitted_in c.args.edges.now c.args.edges.now c.loop-edge.edge-index c.loop-edge.found.items c.loop-edge-test.false refl c.loop-edge.invariant
