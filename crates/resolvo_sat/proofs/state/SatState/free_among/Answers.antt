use Rattle.std.proofs.Common.{◌≡◌, Some, true, inl, inr, sym, ◌∙◌, subst}
use Rattle.resolvo_store_core.specs.Signed.{Signed, negation, has}
use Rattle.resolvo_store_core.specs.Pairs.{watches}
use Rattle.resolvo_sat.specs.State.{history}
use Rattle.resolvo_sat.specs.Entries.{made_true}
use Rattle.resolvo_sat.proofs.Literals.{has_more}
use Rattle.resolvo_sat.proofs.state.SatState.free_among.Goals as goal
use Rattle.resolvo_sat.proofs.state.SatState.free_among.Goals.{else-not-is_false-via-then-not-is_false+else-not-watches, else-not-is_false-via-else-not-is_false}

pub loop-literal-preserved : goal.loop-literal-preserved
loop-literal-preserved c m h = elim (has_more c.args.literals.now c.loop-literal.literal-index c.literal-item.result m c.loop-literal-test.true h) [
  | inl before ↦ c.loop-literal.invariant m before
  | inr here ↦
      let same : c.literal-item.result ≡ m = c.literal-item.is ∙ here in
      elim c.else-not-is_false.branch [
        | else-not-is_false-via-then-not-is_false+else-not-watches w ↦ inl (subst (λ (l : Signed). watches (Some c.args.watched.now) l ≡ true) same (sym w.watches.ensures ∙ w.if-not-watches.false))
        | else-not-is_false-via-else-not-is_false w ↦ inr (subst (λ (l : Signed). has (made_true (history c.args.self.now)) (negation l) ≡ true) same (sym c.is_false-is_false.ensures ∙ w.if-not-is_false.false))
      ]
]
