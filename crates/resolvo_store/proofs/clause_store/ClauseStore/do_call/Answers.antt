use Rattle.std.proofs.Common.{OnOk, sym, subst}
use Rattle.resolvo_store.specs.Stored.{plain, Like}
use Rattle.resolvo_store.specs.Calls.{step}
use Rattle.resolvo_store.proofs.clause_store.ClauseStore.do_call.Goals as goal

pub returns-in-AddClause-clause-store : goal.returns-in-AddClause-clause-store
returns-in-AddClause-clause-store g c =
    let score = g.N.Scores.ScoreMap.score_of in
    subst (λ k. OnOk c.try_add.result (Like (plain score c.try_add.new.self) (step g.N.PartialEq.eq (plain score c.args.self.now) k))) (sym c.in-AddClause.is) c.try_add.ensures.store
