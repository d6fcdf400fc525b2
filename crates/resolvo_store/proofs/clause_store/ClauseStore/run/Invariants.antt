use Rattle.std.proofs.Common.{◌≡◌, map, take}
use Rattle.resolvo_store.specs.Stored.{plain, Like}
use Rattle.resolvo_store.specs.Calls.{plain_answer, after, answers_of}
use Rattle.resolvo_store.proofs.clause_store.ClauseStore.run.Given as goal

-- the answers and the store after the calls so far
abbrev pub invariant-loop-call : goal.invariant-loop-call
invariant-loop-call g l = record {
  answers : map plain_answer l.answers.items ≡ answers_of g.N.PartialEq.eq (plain g.N.Scores.ScoreMap.score_of l.initial.self) (take l.call-index l.calls);
  store : Like (plain g.N.Scores.ScoreMap.score_of l.self) (after g.N.PartialEq.eq (plain g.N.Scores.ScoreMap.score_of l.initial.self) (take l.call-index l.calls));
}
