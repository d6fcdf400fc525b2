use Rattle.std.proofs.Common.{◌≡◌, Bool, true, false, not, take, refl, sym, ◌∙◌, subst}
use Rattle.std.proofs.lemmas.List.{take_all}
use Rattle.resolvo_store_core.specs.Signed.{Signed, same_literal}
use Rattle.resolvo_store_core.specs.SignLaws.{same_literal_true, same_literal_laws}
use Rattle.resolvo_sat.specs.AddClause.{IsEither}
use Rattle.resolvo_sat.proofs.PendingLemmas.{beside_found, beside_past, beside_more}
use Rattle.resolvo_sat.proofs.state.SatState.second_watch.Goals.{then-ne+else-is_second, else-ne}
use Rattle.resolvo_sat.proofs.state.SatState.second_watch.Goals as goal

pub returns : goal.returns
returns c =
    beside_found c.args.literals.now (take c.loop-literal.literal-index c.args.literals.now) c.args.first c.loop-literal.second
    (take_all c.loop-literal.literal-index c.args.literals.now c.loop-literal-test.false) c.loop-literal.invariant

-- of two opposite truths, one from the other
opposite : (b a : Bool) → a ≡ not b → a ≡ true → b ≡ false
opposite false a is h = refl
opposite true a is h = sym h ∙ is

agreeing : (b a : Bool) → a ≡ not b → a ≡ false → b ≡ true
agreeing true a is h = refl
agreeing false a is h = sym h ∙ is

pub loop-literal-preserved : goal.loop-literal-preserved
loop-literal-preserved c =
    let literals = c.args.literals.now in
    let item = c.literal-item.result in
    let i = c.loop-literal.literal-index in
    elim c.if-ne.branch [
      | then-ne+else-is_second w ↦
          let other : same_literal c.args.first item ≡ false = same_literal_laws.symm c.args.first item ∙ opposite (same_literal item c.args.first) c.ne.result c.ne.ensures w.if-ne.true in
          rw w.second-is (beside_more literals i c.args.first item w.first_or_last.result c.loop-literal.second c.loop-literal-test.true (subst (λ (m : Signed). same_literal c.args.first m ≡ false) c.literal-item.is other)
          (subst (λ (m : Signed). IsEither c.loop-literal.second m w.first_or_last.result) c.literal-item.is w.first_or_last.ensures) c.loop-literal.invariant)
      | else-ne w ↦
          rw w.second-is (beside_past literals i c.args.first item c.loop-literal.second c.loop-literal-test.true (sym c.literal-item.is ∙ same_literal_true item c.args.first (agreeing (same_literal item c.args.first) c.ne.result c.ne.ensures w.if-ne.false)) c.loop-literal.invariant)
    ]
