use Rattle.std.proofs.Common.{◌<◌, ◌∙◌, length, get_or, ap, sym, arith}
use Rattle.resolvo_graph.specs.Links.{linked_with_ends_moved}
use Rattle.resolvo_graph.proofs.RemovalLemmas.{changed_more}
use Rattle.resolvo_graph.proofs.graph.move_ends.Goals as goal

pub loop-linked-preserved : goal.loop-linked-preserved
loop-linked-preserved g c =
    let less : c.loop-linked.linked-index < length c.loop-linked.linked-items = omega arith in
    let l = get_or c.loop-linked.linked-items c.loop-linked.linked-index c.linked-item.result in
    let f = linked_with_ends_moved {S = g.row.S.Denot} c.args.last c.args.place in
    changed_more f c.deref_mut-linked-items.result.now c.loop-linked.linked-items c.loop-linked.linked-index c.linked-item.result (record { edge = c.with_ends_moved.result; older = l.older }) c.loop-linked.invariant less c.linked-item.is
    (ap (λ e. record { edge = e; older = l.older }) c.with_ends_moved.ensures ∙ ap f (sym c.linked-item.is))
