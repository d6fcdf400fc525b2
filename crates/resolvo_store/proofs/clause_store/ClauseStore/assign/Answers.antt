use Rattle.resolvo_store.proofs.QueueLemmas.{assigned_seen}
use Rattle.resolvo_store.proofs.clause_store.ClauseStore.assign.Goals as goal

pub invariant_of-self : goal.invariant_of-self
invariant_of-self g c =
    let inv = c.self.invariant in
    (inv.0, inv.1, inv.2, record { sound = inv.3.sound; seen = assigned_seen c.try_add_decision.result c.self.inside.tracker c.try_add_decision.new.self _ c.try_add_decision.ensures.trail c.try_add_decision.ensures.err c.self.inside.queue.undecided.seen.items inv.3.seen; hot = inv.3.hot; unknown = inv.3.unknown })
