use Rattle.std.proofs.Common.{◌≡◌, ◌-◌, ◌≤◌, suc, true, Some, length, vec_len, sym, subst, ap, ◌∙◌, arith}
use Rattle.std.specs.Prelude.{slice_get, Contains}
use Rattle.std.proofs.lemmas.Bool.{both_ways}
use Rattle.std.proofs.lemmas.Option.{slice_get-get_or, get_or_from_slice_get}
use Rattle.resolvo_proof.specs.Trimmed.{AreLeadingFrom, IsFlagged}
use Rattle.resolvo_proof.proofs.FlagLemmas.{leads_more, leads_skip, leads_first, none_flagged}
use Rattle.resolvo_proof.proofs.trim.leading.Goals as goal

pub loop-place-init : goal.loop-place-init
loop-place-init g c =
    let steps = c.args.steps.now in
    let flags = c.resize.new.self.items in
    let (many, none) = none_flagged (length steps) (vec_len c.new-flags.result) c.new-flags.result.items flags c.new-flags.ensures.items c.new-flags.ensures.len c.in_ok-resize.ensures.items in
    record {
      in_range = omega arith;
      leads = leads_first steps flags c.flag.new.flags.items many none c.flag.ensures;
    }

pub loop-place-preserved-then-index : goal.loop-place-preserved-then-index
loop-place-preserved-then-index g c =
    let steps = c.args.steps.now in
    let flags = c.loop-place.flags.items in
    let p = c.loop-place.place - 1 in
    let step = c.index-steps-place.result in
    let more : c.loop-place.place ≡ suc p = omega (arith, c.loop-place-test.true) in
    let old : AreLeadingFrom (suc p) (Contains c.args.wanted.now) steps flags = subst (λ k. AreLeadingFrom k (Contains c.args.wanted.now) steps flags) more c.loop-place.invariant.leads in
    let range : c.loop-place.place ≤ length steps = c.loop-place.invariant.in_range in
    let count : length flags ≡ length steps = old.count in
    let flagged : IsFlagged flags p = slice_get-get_or flags p c.index.result.now (omega arith) ∙ ap Some (sym c.index.ensures ∙ c.if-index.true) in
    let at : slice_get steps p ≡ Some step = slice_get-get_or steps p step (omega arith) ∙ ap Some (sym c.index-steps-place.is) in
    record { in_range = omega arith; leads = leads_more steps p step flags c.flag_causes.new.flags.items at flagged c.flag_causes.ensures old }

pub loop-place-preserved : goal.loop-place-preserved
loop-place-preserved g c =
    let steps = c.args.steps.now in
    let flags = c.loop-place.flags.items in
    let p = c.loop-place.place - 1 in
    let more : c.loop-place.place ≡ suc p = omega (arith, c.loop-place-test.true) in
    let old : AreLeadingFrom (suc p) (Contains c.args.wanted.now) steps flags = subst (λ k. AreLeadingFrom k (Contains c.args.wanted.now) steps flags) more c.loop-place.invariant.leads in
    let range : c.loop-place.place ≤ length steps = c.loop-place.invariant.in_range in
    let out : IsFlagged flags p → ⊥ = λ is. both_ways c.index.result.now c.if-index.false (c.index.ensures ∙ get_or_from_slice_get flags p true c.index.result.now is) in
    record { in_range = omega arith; leads = leads_skip steps p flags out old }

pub returns-clause-leads : goal.returns-clause-leads
returns-clause-leads g c =
    let none : c.loop-place.place ≡ 0 = omega (arith, c.loop-place-test.false) in
    subst (λ k. AreLeadingFrom k (Contains c.args.wanted.now) c.args.steps.now c.loop-place.flags.items) none c.loop-place.invariant.leads
