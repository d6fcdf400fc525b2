use Rattle.std.proofs.Common.{◌∙◌, ap, sym}
use Rattle.resolvo_graph.specs.declared.graph.NodeIndex.{NodeIndex}
use Rattle.resolvo_graph.specs.Outlook.{marked_along, can_be_installed}
use Rattle.resolvo_graph.proofs.MergeLemmas.{dropped}
use Rattle.resolvo_graph.proofs.OutlookLemmas.{marks, passes_over, at_end}
use Rattle.resolvo_graph.proofs.installability.mark_installable.Goals as goal
use Rattle.resolvo_graph.proofs.installability.mark_installable.Goals.{then-branch+in_ok-insert_full, else-branch}

pub loop-node-preserved : goal.loop-node-preserved
loop-node-preserved g c =
    let d : NodeIndex = record { 0 = 0 } in
    let test = can_be_installed c.args.graph.now in
    let all = marked_along test c.args.marked.now.keys c.args.order.now in
    elim c.if-branch.branch [
      | then-branch+in_ok-insert_full w ↦ marks test c.args.order.now c.loop-node.node-index d c.loop-node-test.true all c.loop-node.marked.keys c.if-branch.marked.keys c.loop-node.invariant (sym c.in_ok-can_install.ensures.answer ∙ w.if-branch.true) (ap (λ s. s.keys) w.marked-is ∙ w.in_ok-insert_full.ensures.keys)
      | else-branch w ↦ passes_over test c.args.order.now c.loop-node.node-index d c.loop-node-test.true all c.loop-node.marked.keys c.if-branch.marked.keys c.loop-node.invariant (sym c.in_ok-can_install.ensures.answer ∙ w.if-branch.false) (ap (λ s. s.keys) w.marked-is)
    ]

pub returns-clause-marked : goal.returns-clause-marked
returns-clause-marked g c = at_end (can_be_installed c.args.graph.now) c.args.order.now c.loop-node.node-index (marked_along (can_be_installed c.args.graph.now) c.args.marked.now.keys c.args.order.now) c.loop-node.marked.keys (dropped c.args.order.now c.loop-node.node-index c.loop-node-test.false) c.loop-node.invariant
