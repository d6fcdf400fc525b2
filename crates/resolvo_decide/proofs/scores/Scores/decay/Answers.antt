use Rattle.resolvo_decide.proofs.HotLemmas.{hot_left}
use Rattle.resolvo_decide.proofs.scores.Scores.decay.Goals as goal

pub invariant_of-self-clause-are_hot : goal.invariant_of-self-clause-are_hot
invariant_of-self-clause-are_hot g c =
    let s = c.args.self.now in
    hot_left (g.C.ScoreMap.score_of s.map) (g.C.ScoreMap.score_of c.scale.new.self) c.args.per_million s.hot.items _ s.are_hot c.scale.ensures c.keep_scored.ensures
