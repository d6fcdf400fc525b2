use Rattle.resolvo_store.proofs.QueueLemmas.{sound_learnt}
use Rattle.resolvo_store.proofs.clause_store.ClauseStore.fix_learnt.Goals as goal

pub invariant_of-self : goal.invariant_of-self
invariant_of-self g c =
    let inv = c.self.invariant in
    (inv.0, inv.1, inv.2, record { sound = sound_learnt c.fix_learnt.result _ c.self.inside.lists c.fix_learnt.new.self c.self.inside.queue c.fix_learnt.ensures.fixed c.fix_learnt.ensures.err inv.3.sound; seen = inv.3.seen; hot = inv.3.hot; unknown = inv.3.unknown })
