use Rattle.resolvo_store.proofs.QueueLemmas.{queue_standard}
use Rattle.resolvo_store.proofs.clause_store.ClauseStore.set_standard_activity_params.Goals as goal

pub invariant_of-self : goal.invariant_of-self
invariant_of-self g c =
    let in_it = c.self.inside in
    let inv = c.self.invariant in
    (inv.0, inv.1, inv.2, queue_standard in_it.lists in_it.tracker (g.N.Scores.ScoreMap.score_of in_it.scores) in_it.queue c.set_standard_activity_params.new.self c.args.is_standard c.set_standard_activity_params.ensures inv.3)
