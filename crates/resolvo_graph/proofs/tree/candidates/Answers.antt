use Rattle.std.proofs.Common.{◌≡◌, ◌+◌, ◌++◌, ◌∷◌, [], ◌∙◌, ap, sym, take, get_or, refl}
use Rattle.std.specs.Prelude.{slice_get}
use Rattle.std.proofs.lemmas.List.{take_more, append-nil}
use Rattle.resolvo_graph.specs.declared.graph.NodeIndex.{NodeIndex}
use Rattle.resolvo_graph.specs.Tree.{candidates_at, with_candidate, solvable_at_node}
use Rattle.resolvo_graph.proofs.TreeLemmas.{candidates_at_push}
use Rattle.resolvo_graph.proofs.ListLemmas.{whole}
use Rattle.resolvo_graph.proofs.tree.candidates.Goals as goal
use Rattle.resolvo_graph.proofs.tree.candidates.Goals.{in-Some+in_ok-push, in_default}

pub loop-node-preserved : goal.loop-node-preserved
loop-node-preserved g c =
    let graph = c.args.graph.now in
    let i = c.loop-node.node-index in
    let n : NodeIndex = get_or c.args.nodes.now i (record { 0 = 0 }) in
    let more : candidates_at graph (take (i + 1) c.args.nodes.now) ≡ candidates_at graph (take i c.args.nodes.now) ++ with_candidate n (solvable_at_node (slice_get graph.nodes n.0)) [] =
    ap (candidates_at graph) (take_more c.args.nodes.now i (record { 0 = 0 }) c.loop-node-test.true) ∙ candidates_at_push graph (take i c.args.nodes.now) n in
    elim c.match-version_at.branch [
      | in-Some+in_ok-push w ↦ ap (λ v. v.items) w.found-is ∙ w.in_ok-push.ensures.items ∙ ap (λ xs. xs ++ (n, w.in-Some.version) ∷ []) c.loop-node.invariant ∙ ap (λ o. candidates_at graph (take i c.args.nodes.now) ++ with_candidate n o []) (sym w.in-Some.is ∙ c.version_at.ensures) ∙ sym more
      | in_default w ↦ ap (λ v. v.items) w.found-is ∙ c.loop-node.invariant ∙ sym (append-nil (candidates_at graph (take i c.args.nodes.now))) ∙ ap (λ o. candidates_at graph (take i c.args.nodes.now) ++ with_candidate n o []) (sym w.in_default.is ∙ c.version_at.ensures) ∙ sym more
    ]

pub returns-clause-versions : goal.returns-clause-versions
returns-clause-versions g c = whole (candidates_at c.args.graph.now) c.args.nodes.now c.args.nodes.now c.loop-node.node-index c.loop-node.found.items c.loop-node-test.false refl c.loop-node.invariant
