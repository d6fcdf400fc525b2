use Rattle.std.proofs.Common.{◌∙◌, ap, refl, sym, filter, get_or}
use Rattle.resolvo_graph.specs.declared.graph.NodeIndex.{NodeIndex}
use Rattle.resolvo_graph.specs.Walk.{is_among}
use Rattle.resolvo_graph.proofs.ListLemmas.{filter_more, filter_same, whole}
use Rattle.resolvo_graph.proofs.tree.installable_targets.Goals as goal
use Rattle.resolvo_graph.proofs.tree.installable_targets.Goals.{then-contains+in_ok-push, else-contains}

pub loop-target-preserved : goal.loop-target-preserved
loop-target-preserved c =
    let ns = c.targets-target-items.result.now in
    let i = c.loop-target.target-index in
    let d : NodeIndex = record { 0 = 0 } in
    elim c.if-contains.branch [
      | then-contains+in_ok-push w ↦ filter_more ns i d (get_or ns i d) c.loop-target-test.true refl (is_among c.args.installable.now.keys) c.loop-target.found.items c.if-contains.found.items c.loop-target.invariant (sym c.contains.ensures ∙ w.if-contains.true) (ap (λ v. v.items) w.found-is ∙ w.in_ok-push.ensures.items)
      | else-contains w ↦ filter_same ns i d (get_or ns i d) c.loop-target-test.true refl (is_among c.args.installable.now.keys) c.loop-target.found.items c.if-contains.found.items c.loop-target.invariant (sym c.contains.ensures ∙ w.if-contains.false) (ap (λ v. v.items) w.found-is)
    ]

pub returns-clause-targets : goal.returns-clause-targets
returns-clause-targets c = whole (filter (is_among c.args.installable.now.keys)) c.targets-target-items.result.now c.args.run.now.targets c.loop-target.target-index c.loop-target.found.items c.loop-target-test.false c.targets-target-items.ensures c.loop-target.invariant
