use Rattle.std.proofs.Common.{◌≡◌, ℕ, ◌-◌, ◌<◌, ◌≤◌, List, length, sym, ◌∙◌, ap, subst, arith}
use Rattle.std.specs.Prelude.{slice_index_or}
use Rattle.resolvo_state.specs.Kinds.{Kind}
use Rattle.resolvo_state.specs.StoredKinds.{KindList, kinds_in, begin_at}
use Rattle.resolvo_state.proofs.StoredLemmas.{kinds_count, some_end, last_end, kind_stored, kind_within}
use Rattle.resolvo_state.proofs.clause_kinds.ClauseKinds.get.Goals as goal

pub entry_of-place-requires-clause-some : goal.entry_of-place-requires-clause-some
entry_of-place-requires-clause-some g c =
    let inside = c.self.inside in
    let items : List (Kind g.row.N.Denot g.row.S.Denot) = kinds_in inside.needs.items inside.entries.items inside.ends.items in
    let view : items ≡ c.args.self.now.items = ap (λ (k : KindList g.row.N.Denot g.row.S.Denot). k.items) c.self.view_is in
    let count : length items ≡ begin_at inside.ends.items (length inside.ends.items) = kinds_count inside.needs.items inside.entries.items inside.ends.items c.self.invariant.paired c.self.invariant.rising in
    subst (λ (es : List ℕ). 0 < length es) (sym c.as_slice-ends.ensures.value) (some_end inside.ends.items c.args.number (omega (arith, count, ap length view, c.requires)))

pub entry_of-place-requires-clause-last : goal.entry_of-place-requires-clause-last
entry_of-place-requires-clause-last g c =
    let inside = c.self.inside in
    let items : List (Kind g.row.N.Denot g.row.S.Denot) = kinds_in inside.needs.items inside.entries.items inside.ends.items in
    let view : items ≡ c.args.self.now.items = ap (λ (k : KindList g.row.N.Denot g.row.S.Denot). k.items) c.self.view_is in
    let count : length items ≡ begin_at inside.ends.items (length inside.ends.items) = kinds_count inside.needs.items inside.entries.items inside.ends.items c.self.invariant.paired c.self.invariant.rising in
    subst (λ (es : List ℕ). c.args.number < slice_index_or es (length es - 1) 0) (sym c.as_slice-ends.ensures.value) (last_end inside.ends.items c.args.number (omega (arith, count, ap length view, c.requires)))

pub returns-clause-kind : goal.returns-clause-kind
returns-clause-kind g c =
    let inside = c.self.inside in
    let p = c.entry_of-place.result in
    let below : p < length inside.entries.items = omega (arith, c.entry_of-place.ensures.within, ap length c.as_slice-ends.ensures.value, c.self.invariant.paired) in
    let begin : c.begin_of-begin.result ≡ begin_at inside.ends.items p = c.begin_of-begin.ensures ∙ ap (λ (es : List ℕ). begin_at es p) c.as_slice-ends.ensures.value in
    rw (← c.self.view_is, c.later_kind.ensures, begin)
    (kind_stored inside.needs.items inside.entries.items inside.ends.items p c.args.number c.index.result.now c.self.invariant.paired c.self.invariant.rising below c.index.ensures
    (subst (λ (es : List ℕ). begin_at es p ≤ c.args.number) c.as_slice-ends.ensures.value c.entry_of-place.ensures.above)
    (subst (λ (es : List ℕ). c.args.number < slice_index_or es p 0) c.as_slice-ends.ensures.value c.entry_of-place.ensures.below))

pub returns-clause-within : goal.returns-clause-within
returns-clause-within g c =
    let inside = c.self.inside in
    let p = c.entry_of-place.result in
    let below : p < length inside.entries.items = omega (arith, c.entry_of-place.ensures.within, ap length c.as_slice-ends.ensures.value, c.self.invariant.paired) in
    rw (← c.self.view_is, c.later_kind.ensures) (kind_within (length inside.needs.items) _ inside.entries.items p c.index.result.now below c.index.ensures c.self.invariant.within)
