use Rattle.std.proofs.Common.{◌∙◌, ◌<◌, ◌-◌, ℕ, List, Some, length, get_or, ap, sym, arith}
use Rattle.std.specs.List.{slice_range}
use Rattle.resolvo_pool_core.proofs.FlatLemmas.{below_ends, list_bounds, list_is}
use Rattle.resolvo_pool_core.proofs.flat_lists.FlatLists.get.Goals as goal

pub begin_of-begin-requires : goal.begin_of-begin-requires
begin_of-begin-requires g c =
    let inside = c.self.inside in
    let below = below_ends inside.items.items inside.ends.items c.args.self.now c.args.number c.self.view_is c.requires in
    omega (arith, below, ap length c.deref.ensures.value)

pub index-end-requires : goal.index-end-requires
index-end-requires g c =
    let inside = c.self.inside in
    let below = below_ends inside.items.items inside.ends.items c.args.self.now c.args.number c.self.view_is c.requires in
    omega (arith, below, inside.ends.ok.0)

pub slice_bounds-result-count : goal.slice_bounds-result-count
slice_bounds-result-count g c =
    let inside = c.self.inside in
    let later = λ (h : 0 < c.args.number). c.begin_of-begin.ensures.later h ∙ ap (λ (es : List ℕ). get_or es (c.args.number - 1) 0) c.deref.ensures.value in
    let bounds = list_bounds inside.items.items inside.ends.items c.args.self.now c.args.number c.self.view_is c.requires c.begin_of-begin.result c.index-end.result.now c.self.invariant c.begin_of-begin.ensures.first later c.index-end.ensures in
    omega (arith, bounds.0)

pub slice_bounds-result-start : goal.slice_bounds-result-start
slice_bounds-result-start g c =
    let inside = c.self.inside in
    let later = λ (h : 0 < c.args.number). c.begin_of-begin.ensures.later h ∙ ap (λ (es : List ℕ). get_or es (c.args.number - 1) 0) c.deref.ensures.value in
    let bounds = list_bounds inside.items.items inside.ends.items c.args.self.now c.args.number c.self.view_is c.requires c.begin_of-begin.result c.index-end.result.now c.self.invariant c.begin_of-begin.ensures.first later c.index-end.ensures in
    omega (arith, bounds.0, bounds.1, ap length c.deref-2.ensures.value)

pub offset_bounds-deref-begin : goal.offset_bounds-deref-begin
offset_bounds-deref-begin g c =
    let inside = c.self.inside in
    let later = λ (h : 0 < c.args.number). c.begin_of-begin.ensures.later h ∙ ap (λ (es : List ℕ). get_or es (c.args.number - 1) 0) c.deref.ensures.value in
    let bounds = list_bounds inside.items.items inside.ends.items c.args.self.now c.args.number c.self.view_is c.requires c.begin_of-begin.result c.index-end.result.now c.self.invariant c.begin_of-begin.ensures.first later c.index-end.ensures in
    omega (arith, bounds.0, bounds.1, ap length c.deref-2.ensures.value)

pub slice_bounds-result-end : goal.slice_bounds-result-end
slice_bounds-result-end g c =
    let inside = c.self.inside in
    let later = λ (h : 0 < c.args.number). c.begin_of-begin.ensures.later h ∙ ap (λ (es : List ℕ). get_or es (c.args.number - 1) 0) c.deref.ensures.value in
    let bounds = list_bounds inside.items.items inside.ends.items c.args.self.now c.args.number c.self.view_is c.requires c.begin_of-begin.result c.index-end.result.now c.self.invariant c.begin_of-begin.ensures.first later c.index-end.ensures in
    omega (arith, bounds.1, ap length c.deref-2.ensures.value)

pub returns : goal.returns
returns g c =
    let inside = c.self.inside in
    let later = λ (h : 0 < c.args.number). c.begin_of-begin.ensures.later h ∙ ap (λ (es : List ℕ). get_or es (c.args.number - 1) 0) c.deref.ensures.value in
    list_is inside.items.items inside.ends.items c.args.self.now c.args.number c.self.view_is c.requires c.begin_of-begin.result c.index-end.result.now c.self.invariant c.begin_of-begin.ensures.first later c.index-end.ensures
    ∙ ap (λ (xs : List _). Some (slice_range xs c.begin_of-begin.result c.index-end.result.now)) (sym c.deref-2.ensures.value)
