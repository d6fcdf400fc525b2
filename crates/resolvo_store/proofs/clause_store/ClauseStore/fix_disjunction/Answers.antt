use Rattle.resolvo_store.proofs.QueueLemmas.{sound_disjunction}
use Rattle.resolvo_store.proofs.clause_store.ClauseStore.fix_disjunction.Goals as goal

pub invariant_of-self : goal.invariant_of-self
invariant_of-self g c =
    let inv = c.self.invariant in
    (inv.0, inv.1, inv.2, record { sound = sound_disjunction c.fix_disjunction.result _ c.self.inside.lists c.fix_disjunction.new.self c.self.inside.queue c.fix_disjunction.ensures.fixed c.fix_disjunction.ensures.err inv.3.sound; seen = inv.3.seen; hot = inv.3.hot; unknown = inv.3.unknown })
