use Rattle.std.proofs.Common.{◌≡◌, ◌∙◌, ℕ, ◌-◌, ◌<◌, ◌≤◌, List, length, get_or, sym, ap, subst, Some, None, arith}
use Rattle.std.specs.Prelude.{slice_get}
use Rattle.std.specs.List.{slice_range}
use Rattle.std.proofs.lemmas.Option.{slice_get-get_or}
use Rattle.resolvo_pool_core.specs.declared.id.ClauseId.{ClauseId}
use Rattle.resolvo_sat.specs.Clauses.{SatClause, causes_at, causes_of, clauses_in, AreNumbered, IsPlaceOf}
use Rattle.resolvo_sat.proofs.ArenaLemmas.{begin_from, begin_is, clauses_count, range_within, causes_in, causes_none, causes_found}
use Rattle.resolvo_sat.proofs.clause_arena.ClauseArena.causes.Goals as goal

pub overflow_cast-clause : goal.overflow_cast-clause
overflow_cast-clause c =
    let inside = c.self.inside in
    let n = c.args.number in
    let ls = inside.literals.items in
    let f : ℕ → List ClauseId = causes_of inside.causes.items 0 inside.caused.items inside.cause_ends.items in
    let view : clauses_in ls inside.ends.items inside.causes.items inside.caused.items inside.cause_ends.items ≡ c.args.self.now = c.self.view_is in
    let below : n < length inside.ends.items = omega (arith, clauses_count f ls 0 0 inside.ends.items, ap length view, c.requires) in
    omega (arith, below, c.self.invariant.few)

pub place_of-requires : goal.place_of-requires
place_of-requires c = (length c.self.inside.ends.items, subst (λ (ns : List ℕ). AreNumbered (length c.self.inside.ends.items) 0 ns) (sym c.deref.ensures.value) c.self.invariant.for_causes.numbered)

pub begin_of-begin-requires : goal.begin_of-begin-requires
begin_of-begin-requires c =
    let inside = c.self.inside in
    let cs = inside.causes.items in
    let ends = inside.cause_ends.items in
    let n = c.args.number in
    let i = c.in-Some.place in
    let here : IsPlaceOf inside.caused.items n (Some i) = subst (λ (ns : List ℕ). IsPlaceOf ns n (Some i)) c.deref.ensures.value c.in-Some.ensures in
    let placed : i < length inside.caused.items = here.0 in
    let within : i < length ends = omega (arith, c.self.invariant.for_causes.paired) in
    omega (arith, within, ap length c.deref-in-Some.ensures.value)

pub index-end-requires : goal.index-end-requires
index-end-requires c =
    let inside = c.self.inside in
    let cs = inside.causes.items in
    let ends = inside.cause_ends.items in
    let n = c.args.number in
    let i = c.in-Some.place in
    let here : IsPlaceOf inside.caused.items n (Some i) = subst (λ (ns : List ℕ). IsPlaceOf ns n (Some i)) c.deref.ensures.value c.in-Some.ensures in
    let placed : i < length inside.caused.items = here.0 in
    let within : i < length ends = omega (arith, c.self.invariant.for_causes.paired) in
    omega (arith, within, c.self.inside.cause_ends.ok.0)

pub slice_bounds-result-count : goal.slice_bounds-result-count
slice_bounds-result-count c =
    let inside = c.self.inside in
    let cs = inside.causes.items in
    let ends = inside.cause_ends.items in
    let n = c.args.number in
    let i = c.in-Some.place in
    let here : IsPlaceOf inside.caused.items n (Some i) = subst (λ (ns : List ℕ). IsPlaceOf ns n (Some i)) c.deref.ensures.value c.in-Some.ensures in
    let placed : i < length inside.caused.items = here.0 in
    let within : i < length ends = omega (arith, c.self.invariant.for_causes.paired) in
    let p = c.index-end.result.now in
    let at : slice_get ends i ≡ Some p = slice_get-get_or ends i p within ∙ ap (λ (x : ℕ). Some x) (sym c.index-end.ensures) in
    let bounds = range_within (length cs) 0 ends i p c.self.invariant.for_causes.rising at in
    let first : begin_from 0 ends i ≤ p = bounds.0 in
    let last : p ≤ length cs = bounds.1 in
    let is : c.begin_of-begin.result ≡ begin_from 0 ends i = begin_is ends i c.begin_of-begin.result c.begin_of-begin.ensures.first
    (λ h. c.begin_of-begin.ensures.later h ∙ ap (λ (es : List ℕ). get_or es (i - 1) 0) c.deref-in-Some.ensures.value) (omega (arith, within)) in
    omega (arith, is, first)

pub slice_bounds-result-start : goal.slice_bounds-result-start
slice_bounds-result-start c =
    let inside = c.self.inside in
    let cs = inside.causes.items in
    let ends = inside.cause_ends.items in
    let n = c.args.number in
    let i = c.in-Some.place in
    let here : IsPlaceOf inside.caused.items n (Some i) = subst (λ (ns : List ℕ). IsPlaceOf ns n (Some i)) c.deref.ensures.value c.in-Some.ensures in
    let placed : i < length inside.caused.items = here.0 in
    let within : i < length ends = omega (arith, c.self.invariant.for_causes.paired) in
    let p = c.index-end.result.now in
    let at : slice_get ends i ≡ Some p = slice_get-get_or ends i p within ∙ ap (λ (x : ℕ). Some x) (sym c.index-end.ensures) in
    let bounds = range_within (length cs) 0 ends i p c.self.invariant.for_causes.rising at in
    let first : begin_from 0 ends i ≤ p = bounds.0 in
    let last : p ≤ length cs = bounds.1 in
    let is : c.begin_of-begin.result ≡ begin_from 0 ends i = begin_is ends i c.begin_of-begin.result c.begin_of-begin.ensures.first
    (λ h. c.begin_of-begin.ensures.later h ∙ ap (λ (es : List ℕ). get_or es (i - 1) 0) c.deref-in-Some.ensures.value) (omega (arith, within)) in
    let same = ap length c.deref-in-Some-2.ensures.value in
    omega (arith, is, first, last, same)

pub slice_bounds-result-end : goal.slice_bounds-result-end
slice_bounds-result-end c =
    let inside = c.self.inside in
    let cs = inside.causes.items in
    let ends = inside.cause_ends.items in
    let n = c.args.number in
    let i = c.in-Some.place in
    let here : IsPlaceOf inside.caused.items n (Some i) = subst (λ (ns : List ℕ). IsPlaceOf ns n (Some i)) c.deref.ensures.value c.in-Some.ensures in
    let placed : i < length inside.caused.items = here.0 in
    let within : i < length ends = omega (arith, c.self.invariant.for_causes.paired) in
    let p = c.index-end.result.now in
    let at : slice_get ends i ≡ Some p = slice_get-get_or ends i p within ∙ ap (λ (x : ℕ). Some x) (sym c.index-end.ensures) in
    let bounds = range_within (length cs) 0 ends i p c.self.invariant.for_causes.rising at in
    let first : begin_from 0 ends i ≤ p = bounds.0 in
    let last : p ≤ length cs = bounds.1 in
    let is : c.begin_of-begin.result ≡ begin_from 0 ends i = begin_is ends i c.begin_of-begin.result c.begin_of-begin.ensures.first
    (λ h. c.begin_of-begin.ensures.later h ∙ ap (λ (es : List ℕ). get_or es (i - 1) 0) c.deref-in-Some.ensures.value) (omega (arith, within)) in
    let same = ap length c.deref-in-Some-2.ensures.value in
    omega (arith, last, same)

pub returns-in-Some : goal.returns-in-Some
returns-in-Some c =
    let inside = c.self.inside in
    let cs = inside.causes.items in
    let ends = inside.cause_ends.items in
    let n = c.args.number in
    let i = c.in-Some.place in
    let here : IsPlaceOf inside.caused.items n (Some i) = subst (λ (ns : List ℕ). IsPlaceOf ns n (Some i)) c.deref.ensures.value c.in-Some.ensures in
    let placed : i < length inside.caused.items = here.0 in
    let within : i < length ends = omega (arith, c.self.invariant.for_causes.paired) in
    let p = c.index-end.result.now in
    let at : slice_get ends i ≡ Some p = slice_get-get_or ends i p within ∙ ap (λ (x : ℕ). Some x) (sym c.index-end.ensures) in
    let bounds = range_within (length cs) 0 ends i p c.self.invariant.for_causes.rising at in
    let first : begin_from 0 ends i ≤ p = bounds.0 in
    let last : p ≤ length cs = bounds.1 in
    let is : c.begin_of-begin.result ≡ begin_from 0 ends i = begin_is ends i c.begin_of-begin.result c.begin_of-begin.ensures.first
    (λ h. c.begin_of-begin.ensures.later h ∙ ap (λ (es : List ℕ). get_or es (i - 1) 0) c.deref-in-Some.ensures.value) (omega (arith, within)) in
    let ls = inside.literals.items in
    let f : ℕ → List ClauseId = causes_of inside.causes.items 0 inside.caused.items inside.cause_ends.items in
    let view : clauses_in ls inside.ends.items inside.causes.items inside.caused.items inside.cause_ends.items ≡ c.args.self.now = c.self.view_is in
    let below : n < length inside.ends.items = omega (arith, clauses_count f ls 0 0 inside.ends.items, ap length view, c.requires) in
    ap (λ (xs : List ClauseId). slice_range xs c.begin_of-begin.result p) c.deref-in-Some-2.ensures.value
    ∙ (ap (λ (k : ℕ). slice_range cs k p) is
    ∙ (sym (causes_found cs 0 (length inside.ends.items) 0 inside.caused.items ends n i p c.self.invariant.for_causes.numbered here.0 here.1 at)
    ∙ (sym (causes_in f ls 0 0 inside.ends.items n n below (omega arith))
    ∙ ap (λ (xs : List SatClause). causes_at xs n) view)))

pub returns-in-None : goal.returns-in-None
returns-in-None c =
    let inside = c.self.inside in
    let n = c.args.number in
    let ls = inside.literals.items in
    let f : ℕ → List ClauseId = causes_of inside.causes.items 0 inside.caused.items inside.cause_ends.items in
    let view : clauses_in ls inside.ends.items inside.causes.items inside.caused.items inside.cause_ends.items ≡ c.args.self.now = c.self.view_is in
    let below : n < length inside.ends.items = omega (arith, clauses_count f ls 0 0 inside.ends.items, ap length view, c.requires) in
    let none : IsPlaceOf inside.caused.items n None = subst (λ (ns : List ℕ). IsPlaceOf ns n None) c.deref.ensures.value c.in-None.ensures in
    sym (causes_none inside.causes.items 0 inside.caused.items inside.cause_ends.items n none)
    ∙ (sym (causes_in f ls 0 0 inside.ends.items n n below (omega arith))
    ∙ ap (λ (xs : List SatClause). causes_at xs n) view)
