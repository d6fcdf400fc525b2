use Rattle.std.proofs.Common.{arith, ◌<◌, ◌∙◌, refl, ap, sym, filter, length}
use Rattle.std.specs.Prelude.{◌||◌}
use Rattle.std.specs.List.{list_any}
use Rattle.resolvo_graph.specs.Graph.{is_exclusion, is_excluding}
use Rattle.resolvo_graph.specs.declared.links.Side.TheVariants.{Entering}
use Rattle.resolvo_graph.specs.Links.{edges_in, is_at, link_on, newest_of, up_to}
use Rattle.resolvo_graph.proofs.LinkLemmas.{from_newest, within, nearer, any_more, any_both, or_true, or_false, still_on}
use Rattle.resolvo_graph.proofs.graph.ConflictGraph.is_excluding.Goals as goal

pub loop-next-init : goal.loop-next-init
loop-next-init g c =
    let p = is_at {S = g.row.S.Denot} Entering c.args.node in
    let all = from_newest p (edges_in c.self.inside.edges.items) c.newest_at-next.result (c.newest_at-next.ensures ∙ ap (λ v. newest_of p v.edges (length v.edges)) (sym c.self.view_is)) in
    (ap (list_any (λ e. is_exclusion e.weight)) all.0, all.1)

pub index-linked-requires : goal.index-linked-requires
index-linked-requires g c =
    let less : c.in-Some.field-0.0 < length c.self.inside.edges.items = within c.self.inside.newest.items c.self.inside.edges.items Entering c.args.node c.self.invariant.2 c.loop-next.next c.in-Some.field-0 c.in-Some.is c.loop-next.invariant.1 in
    omega (arith, c.self.inside.edges.ok)

pub returns-then-is_exclusion : goal.returns-then-is_exclusion
returns-then-is_exclusion g c =
    let p = is_at {S = g.row.S.Denot} Entering c.args.node in
    let l = c.index-linked.result.now in
    let older = list_any (λ e. is_exclusion e.weight) (filter p (up_to (link_on Entering l.older) (edges_in c.self.inside.edges.items))) in
    sym (ap (λ v. is_excluding v c.args.node) (sym c.self.view_is) ∙ any_both p (λ e. is_exclusion e.weight) (edges_in c.self.inside.edges.items) ∙ c.loop-next.invariant.0
    ∙ any_more c.self.inside.newest.items c.self.inside.edges.items Entering c.args.node c.self.invariant.2 c.loop-next.next c.in-Some.field-0 c.in-Some.is c.loop-next.invariant.1 c.index-linked.result.now (link_on Entering l.older) c.index-linked.ensures refl (λ e. is_exclusion e.weight)
    ∙ ap (λ b. older || b) (sym c.is_exclusion.ensures ∙ c.if-is_exclusion.true) ∙ or_true older)

pub loop-next-smaller : goal.loop-next-smaller
loop-next-smaller g c = nearer c.self.inside.newest.items c.self.inside.edges.items Entering c.args.node c.self.invariant.2 c.loop-next.next c.in-Some.field-0 c.in-Some.is c.loop-next.invariant.1 c.index-linked.result.now c.on-next.result c.index-linked.ensures c.on-next.ensures

pub loop-next-preserved : goal.loop-next-preserved
loop-next-preserved g c =
    let p = is_at {S = g.row.S.Denot} Entering c.args.node in
    let older = list_any (λ e. is_exclusion e.weight) (filter p (up_to c.on-next.result (edges_in c.self.inside.edges.items))) in (
      c.loop-next.invariant.0 ∙ any_more c.self.inside.newest.items c.self.inside.edges.items Entering c.args.node c.self.invariant.2 c.loop-next.next c.in-Some.field-0 c.in-Some.is c.loop-next.invariant.1 c.index-linked.result.now c.on-next.result c.index-linked.ensures c.on-next.ensures (λ e. is_exclusion e.weight) ∙ ap (λ b. older || b) (sym c.is_exclusion.ensures ∙ c.if-is_exclusion.false) ∙ or_false older,
      still_on c.self.inside.newest.items c.self.inside.edges.items Entering c.args.node c.self.invariant.2 c.loop-next.next c.in-Some.field-0 c.in-Some.is c.loop-next.invariant.1 c.index-linked.result.now c.on-next.result c.index-linked.ensures c.on-next.ensures,
    )

pub returns : goal.returns
returns g c =
    let p = is_at {S = g.row.S.Denot} Entering c.args.node in
    sym (ap (λ v. is_excluding v c.args.node) (sym c.self.view_is) ∙ any_both p (λ e. is_exclusion e.weight) (edges_in c.self.inside.edges.items) ∙ c.loop-next.invariant.0 ∙ ap (λ o. list_any (λ e. is_exclusion e.weight) (filter p (up_to o (edges_in c.self.inside.edges.items)))) c.in_default.is)
