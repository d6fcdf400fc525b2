use Rattle.std.proofs.Common.{◌≡◌, ℕ, ◌∙◌, List, length, ap, arith}
use Rattle.resolvo_state.specs.Kinds.{Kind}
use Rattle.resolvo_state.specs.StoredKinds.{KindList, kinds_in, begin_at}
use Rattle.resolvo_state.proofs.StoredLemmas.{kinds_count}
use Rattle.resolvo_state.proofs.clause_kinds.ClauseKinds.len.Goals as goal

pub returns : goal.returns
returns g c =
    let inside = c.self.inside in
    let items : List (Kind g.row.N.Denot g.row.S.Denot) = kinds_in inside.needs.items inside.entries.items inside.ends.items in
    let view : items ≡ c.args.self.now.items = ap (λ (k : KindList g.row.N.Denot g.row.S.Denot). k.items) c.self.view_is in
    let count : length items ≡ begin_at inside.ends.items (length inside.ends.items) = kinds_count inside.needs.items inside.entries.items inside.ends.items c.self.invariant.paired c.self.invariant.rising in
    let whole : c.len.result ≡ length inside.ends.items = omega (arith, c.len.ensures, inside.ends.ok.0) in
    let last : c.begin_of.result ≡ begin_at inside.ends.items (length inside.ends.items) =
    c.begin_of.ensures ∙ (ap (λ (es : List ℕ). begin_at es c.len.result) c.as_slice.ensures.value ∙ ap (begin_at inside.ends.items) whole) in
    omega (arith, last, count, ap length view)
