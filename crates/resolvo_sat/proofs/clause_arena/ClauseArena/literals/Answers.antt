use Rattle.std.proofs.Common.{◌≡◌, ◌∙◌, ℕ, ◌-◌, ◌<◌, ◌≤◌, List, length, get_or, sym, ap, Some, arith}
use Rattle.std.specs.Prelude.{slice_get}
use Rattle.std.specs.List.{slice_range}
use Rattle.std.proofs.lemmas.Option.{slice_get-get_or}
use Rattle.resolvo_pool_core.specs.declared.id.ClauseId.{ClauseId}
use Rattle.resolvo_store_core.specs.Signed.{Signed}
use Rattle.resolvo_sat.specs.Known.{clause_at}
use Rattle.resolvo_sat.specs.State.{lists}
use Rattle.resolvo_sat.specs.Clauses.{SatClause, causes_of, clauses_in}
use Rattle.resolvo_sat.proofs.ArenaLemmas.{begin_from, begin_is, clauses_count, range_within, literals_in}
use Rattle.resolvo_sat.proofs.clause_arena.ClauseArena.literals.Goals as goal

pub begin_of-begin-requires : goal.begin_of-begin-requires
begin_of-begin-requires c =
    let inside = c.self.inside in
    let ls = inside.literals.items in
    let ends = inside.ends.items in
    let f : ℕ → List ClauseId = causes_of inside.causes.items 0 inside.caused.items inside.cause_ends.items in
    let n = c.args.number in
    let view : clauses_in ls ends inside.causes.items inside.caused.items inside.cause_ends.items ≡ c.args.self.now = c.self.view_is in
    let within : n < length ends = omega (arith, clauses_count f ls 0 0 ends, ap length view, c.requires) in
    omega (arith, within, ap length c.deref.ensures.value)

pub index-end-requires : goal.index-end-requires
index-end-requires c =
    let inside = c.self.inside in
    let ls = inside.literals.items in
    let ends = inside.ends.items in
    let f : ℕ → List ClauseId = causes_of inside.causes.items 0 inside.caused.items inside.cause_ends.items in
    let n = c.args.number in
    let view : clauses_in ls ends inside.causes.items inside.caused.items inside.cause_ends.items ≡ c.args.self.now = c.self.view_is in
    let within : n < length ends = omega (arith, clauses_count f ls 0 0 ends, ap length view, c.requires) in
    omega (arith, within, c.self.inside.ends.ok.0)

pub slice_bounds-result-count : goal.slice_bounds-result-count
slice_bounds-result-count c =
    let inside = c.self.inside in
    let ls = inside.literals.items in
    let ends = inside.ends.items in
    let f : ℕ → List ClauseId = causes_of inside.causes.items 0 inside.caused.items inside.cause_ends.items in
    let n = c.args.number in
    let view : clauses_in ls ends inside.causes.items inside.caused.items inside.cause_ends.items ≡ c.args.self.now = c.self.view_is in
    let within : n < length ends = omega (arith, clauses_count f ls 0 0 ends, ap length view, c.requires) in
    let p = c.index-end.result.now in
    let at : slice_get ends n ≡ Some p = slice_get-get_or ends n p within ∙ ap (λ (x : ℕ). Some x) (sym c.index-end.ensures) in
    let bounds = range_within (length ls) 0 ends n p c.self.invariant.rising at in
    let first : begin_from 0 ends n ≤ p = bounds.0 in
    let last : p ≤ length ls = bounds.1 in
    let is : c.begin_of-begin.result ≡ begin_from 0 ends n = begin_is ends n c.begin_of-begin.result c.begin_of-begin.ensures.first
    (λ h. c.begin_of-begin.ensures.later h ∙ ap (λ (es : List ℕ). get_or es (n - 1) 0) c.deref.ensures.value) (omega (arith, within)) in
    omega (arith, is, first)

pub slice_bounds-result-start : goal.slice_bounds-result-start
slice_bounds-result-start c =
    let inside = c.self.inside in
    let ls = inside.literals.items in
    let ends = inside.ends.items in
    let f : ℕ → List ClauseId = causes_of inside.causes.items 0 inside.caused.items inside.cause_ends.items in
    let n = c.args.number in
    let view : clauses_in ls ends inside.causes.items inside.caused.items inside.cause_ends.items ≡ c.args.self.now = c.self.view_is in
    let within : n < length ends = omega (arith, clauses_count f ls 0 0 ends, ap length view, c.requires) in
    let p = c.index-end.result.now in
    let at : slice_get ends n ≡ Some p = slice_get-get_or ends n p within ∙ ap (λ (x : ℕ). Some x) (sym c.index-end.ensures) in
    let bounds = range_within (length ls) 0 ends n p c.self.invariant.rising at in
    let first : begin_from 0 ends n ≤ p = bounds.0 in
    let last : p ≤ length ls = bounds.1 in
    let is : c.begin_of-begin.result ≡ begin_from 0 ends n = begin_is ends n c.begin_of-begin.result c.begin_of-begin.ensures.first
    (λ h. c.begin_of-begin.ensures.later h ∙ ap (λ (es : List ℕ). get_or es (n - 1) 0) c.deref.ensures.value) (omega (arith, within)) in
    let same = ap length c.deref-2.ensures.value in
    omega (arith, is, first, last, same)

pub slice_bounds-result-end : goal.slice_bounds-result-end
slice_bounds-result-end c =
    let inside = c.self.inside in
    let ls = inside.literals.items in
    let ends = inside.ends.items in
    let f : ℕ → List ClauseId = causes_of inside.causes.items 0 inside.caused.items inside.cause_ends.items in
    let n = c.args.number in
    let view : clauses_in ls ends inside.causes.items inside.caused.items inside.cause_ends.items ≡ c.args.self.now = c.self.view_is in
    let within : n < length ends = omega (arith, clauses_count f ls 0 0 ends, ap length view, c.requires) in
    let p = c.index-end.result.now in
    let at : slice_get ends n ≡ Some p = slice_get-get_or ends n p within ∙ ap (λ (x : ℕ). Some x) (sym c.index-end.ensures) in
    let bounds = range_within (length ls) 0 ends n p c.self.invariant.rising at in
    let first : begin_from 0 ends n ≤ p = bounds.0 in
    let last : p ≤ length ls = bounds.1 in
    let is : c.begin_of-begin.result ≡ begin_from 0 ends n = begin_is ends n c.begin_of-begin.result c.begin_of-begin.ensures.first
    (λ h. c.begin_of-begin.ensures.later h ∙ ap (λ (es : List ℕ). get_or es (n - 1) 0) c.deref.ensures.value) (omega (arith, within)) in
    let same = ap length c.deref-2.ensures.value in
    omega (arith, last, same)

pub returns : goal.returns
returns c =
    let inside = c.self.inside in
    let ls = inside.literals.items in
    let ends = inside.ends.items in
    let f : ℕ → List ClauseId = causes_of inside.causes.items 0 inside.caused.items inside.cause_ends.items in
    let n = c.args.number in
    let view : clauses_in ls ends inside.causes.items inside.caused.items inside.cause_ends.items ≡ c.args.self.now = c.self.view_is in
    let within : n < length ends = omega (arith, clauses_count f ls 0 0 ends, ap length view, c.requires) in
    let p = c.index-end.result.now in
    let at : slice_get ends n ≡ Some p = slice_get-get_or ends n p within ∙ ap (λ (x : ℕ). Some x) (sym c.index-end.ensures) in
    let bounds = range_within (length ls) 0 ends n p c.self.invariant.rising at in
    let first : begin_from 0 ends n ≤ p = bounds.0 in
    let last : p ≤ length ls = bounds.1 in
    let is : c.begin_of-begin.result ≡ begin_from 0 ends n = begin_is ends n c.begin_of-begin.result c.begin_of-begin.ensures.first
    (λ h. c.begin_of-begin.ensures.later h ∙ ap (λ (es : List ℕ). get_or es (n - 1) 0) c.deref.ensures.value) (omega (arith, within)) in
    ap (λ (xs : List Signed). slice_range xs c.begin_of-begin.result p) c.deref-2.ensures.value
    ∙ ap (λ (k : ℕ). slice_range ls k p) is
    ∙ sym (literals_in f ls 0 0 ends n p at)
    ∙ ap (λ (xs : List SatClause). clause_at (lists xs) n) view
