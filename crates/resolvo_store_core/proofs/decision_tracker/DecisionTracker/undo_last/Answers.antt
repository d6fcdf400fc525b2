use Rattle.std.proofs.Common.{◌≡◌, ℕ, min, length, sym, ◌∙◌, ap, subst}
use Rattle.resolvo_store_core.specs.Trail.{IsTrail}
use Rattle.resolvo_store_core.proofs.Trails.{trail_popped}
use Rattle.resolvo_store_core.proofs.decision_tracker.DecisionTracker.undo_last.Goals as goal

pub invariant_of-self : goal.invariant_of-self
invariant_of-self c =
    let len : c.len-len.result ≡ length c.pop.new.self.items = cc in
    let qhead : c.min-self-inside.result ≡ min c.self.inside.qhead (length c.pop.new.self.items) = c.min-self-inside.ensures ∙ ap (min c.self.inside.qhead) len in
    let floor : c.min-self-inside-in-Some.result ≡ min c.self.inside.floor (length c.pop.new.self.items) = c.min-self-inside-in-Some.ensures ∙ ap (min c.self.inside.floor) len in
    subst (λ (n : ℕ). IsTrail c.reset.new.self c.pop.new.self.items n c.min-self-inside-in-Some.result) (sym qhead)
    (subst (λ (n : ℕ). IsTrail c.reset.new.self c.pop.new.self.items (min c.self.inside.qhead (length c.pop.new.self.items)) n) (sym floor)
    (trail_popped c.self.inside.map c.reset.new.self c.self.inside.stack.items c.pop.new.self.items c.in-Some.entry c.self.inside.qhead c.self.inside.floor c.self.invariant c.in-Some.ensures.items c.reset.ensures.put))
