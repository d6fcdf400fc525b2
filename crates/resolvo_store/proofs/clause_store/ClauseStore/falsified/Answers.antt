use Rattle.std.proofs.Common.{◌∙◌, ap}
use Rattle.resolvo_store.specs.Stored.{plain}
use Rattle.resolvo_store.specs.Calls.{broken_in}
use Rattle.resolvo_store.proofs.Plain.{broken_plain}
use Rattle.resolvo_store.proofs.clause_store.ClauseStore.falsified.Goals as goal

pub returns : goal.returns
returns g c =
    let score = g.N.Scores.ScoreMap.score_of in
    let in_it = c.self.inside in
    c.falsified.ensures
    ∙ broken_plain score (record { lists = in_it.lists; clauses = in_it.clauses.items; watched = in_it.watched.items; watches = in_it.watches; trail = in_it.tracker.trail; needs = in_it.queue.registered.items; scores = in_it.scores }) c.map.result.now c.map.ensures
    ∙ ap (λ k. broken_in (plain score k)) c.self.view_is
