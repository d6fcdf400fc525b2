use Rattle.std.proofs.Common.{◌≡◌, ◌-◌, length, drop}
use Rattle.resolvo_store_core.specs.Values.{value_at}
use Rattle.resolvo_store_core.specs.Pick.{pick, pick_after}
use Rattle.resolvo_decide.specs.Cold.{HasColdBits}
use Rattle.resolvo_decide.specs.Needs.{literals_in, Fits}
use Rattle.resolvo_decide.proofs.undecided_clauses.UndecidedClauses.pick.Given as goal

-- the pick over all is the pick over the remaining clauses, after the decision so far
abbrev pub invariant-loop-position : goal.invariant-loop-position
invariant-loop-position g l = record {
  fits : Fits (literals_in l.lists) l.self l.queue;
  seen : l.self.seen ≡ l.fn.self.seen;
  cold : HasColdBits l.lists l.cold l.queue;
  rest : l.cold ≡ record l.fn.cold { warm = l.cold.warm };
  picked : pick l.lists (value_at l.values) (g.C.ScoreMap.score_of l.scores) l.queue ≡ pick_after l.lists (value_at l.values) (g.C.ScoreMap.score_of l.scores) l.best (drop l.position l.queue);
}

abbrev pub decreases-loop-position : goal.decreases-loop-position
decreases-loop-position g l = length l.queue - l.position
