use Rattle.std.proofs.Common.{inl, inr}
use Rattle.resolvo_decide.proofs.ColdLemmas.{unscored_cold}
use Rattle.resolvo_decide.proofs.cold_clauses.ColdClauses.note.Goals as goal

pub returns-then-are_unscored-clause-noted : goal.returns-then-are_unscored-clause-noted
returns-then-are_unscored-clause-noted g c = λ i none. elim (c.unmark.ensures i none) [
  | inl before ↦ inl before
  | inr at ↦ inr (at, unscored_cold (g.C.ScoreMap.score_of c.args.scores.now) c.args.self.now.hot.items c.args.candidates.now (c.requires c.if-self.true) (c.are_unscored.ensures.some c.if-are_unscored.true) (c.are_unscored.ensures.unscored c.if-are_unscored.true))
]
