use Rattle.resolvo_store.proofs.QueueLemmas.{hot_tried, queue_hot}
use Rattle.resolvo_store.proofs.clause_store.ClauseStore.bump_name.Goals as goal

pub invariant_of-self : goal.invariant_of-self
invariant_of-self g c =
    let score = g.N.Scores.ScoreMap.score_of in
    let in_it = c.self.inside in
    let inv = c.self.invariant in (
      inv.0,
      inv.1,
      inv.2,
      queue_hot in_it.lists in_it.tracker (score in_it.scores) (score c.set.new.self) in_it.queue c.mark_name_hot.new.self _ c.mark_name_hot.ensures
          (hot_tried c.set.result g.N.PartialEq.eq (score in_it.scores) (score c.set.new.self) c.args.name c.saturating_add-score.result in_it.queue.most c.set.ensures.put c.set.ensures.err inv.3.hot) inv.3,
    )
