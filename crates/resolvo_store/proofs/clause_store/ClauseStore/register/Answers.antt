use Rattle.resolvo_store.proofs.QueueLemmas.{queue_registered}
use Rattle.resolvo_store.proofs.clause_store.ClauseStore.register.Goals as goal

pub invariant_of-self : goal.invariant_of-self
invariant_of-self g c =
    let in_it = c.self.inside in
    let inv = c.self.invariant in
    let added = c.register_clause.ensures in
    (inv.0, inv.1, inv.2, queue_registered in_it.lists in_it.tracker (g.N.Scores.ScoreMap.score_of in_it.scores) in_it.queue c.register_clause.new.self added.sound added.seen added.most added.cold inv.3)
