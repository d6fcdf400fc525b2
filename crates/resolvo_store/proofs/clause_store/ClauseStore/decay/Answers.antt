use Rattle.resolvo_store.proofs.QueueLemmas.{hot_decayed, not_above}
use Rattle.resolvo_store.proofs.clause_store.ClauseStore.decay.Goals as goal

pub invariant_of-self : goal.invariant_of-self
invariant_of-self g c =
    let inv = c.self.invariant in
    (inv.0, inv.1, inv.2, record { sound = inv.3.sound; seen = inv.3.seen; hot = hot_decayed (g.N.Scores.ScoreMap.score_of c.self.inside.scores) (g.N.Scores.ScoreMap.score_of c.scale.new.self) c.args.per_million c.self.inside.queue.most (not_above c.args.per_million c.requires) c.scale.ensures inv.3.hot; unknown = inv.3.unknown })
