use Rattle.std.proofs.Common.{◌≡◌, ◌∷◌, ◌++◌, [], List, cond, sym, ◌∙◌, ap, subst}
use Rattle.std.specs.Prelude.{is_ok}
use Rattle.resolvo_store_core.specs.declared.decision.Entry.{Entry}
use Rattle.resolvo_store_core.specs.Trail.{IsTrail}
use Rattle.resolvo_store_core.proofs.Trails.{trail_pushed, undecided_at}
use Rattle.resolvo_store_core.proofs.decision_tracker.DecisionTracker.try_add_decision.Goals as goal

pub invariant_of-self-in-None : goal.invariant_of-self-in-None
invariant_of-self-in-None c =
    let e : Entry = record { decision = c.args.decision; level = c.args.level } in
    let grown : c.push.new.self.items ≡ c.self.inside.stack.items ++ e ∷ [] =
    c.push.ensures.items ∙ ap (λ r. cond (is_ok r) (c.reserve.new.self.items ++ e ∷ []) c.reserve.new.self.items) c.unwrap.ensures ∙ ap (λ (es : List Entry). es ++ e ∷ []) c.reserve.ensures.items in
    subst (λ (es : List Entry). IsTrail c.set.new.self es c.self.inside.qhead c.self.inside.floor) (sym grown)
    (trail_pushed c.self.inside.map c.set.new.self c.self.inside.stack.items e c.self.inside.qhead c.self.inside.floor c.self.invariant (undecided_at c.self.inside.map c.args.decision.variable.0 (sym c.in-None.ensures)) c.in_ok-set-in-None.ensures.put)
