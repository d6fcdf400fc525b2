use Rattle.std.proofs.Common.{◌≡◌, ◌∷◌, ◌++◌, [], List, Option, None, sym, ◌∙◌, ap, subst, arith}
use Rattle.resolvo_store_core.specs.declared.watched_literals.WatchedLiterals.{WatchedLiterals}
use Rattle.resolvo_store_core.specs.declared.store_clause.Clause.TheVariants.{InstallRoot}
use Rattle.resolvo_store_core.specs.Trail.{Tracked}
use Rattle.resolvo_store_core.specs.Watches.{watchers, IsWatched}
use Rattle.resolvo_store_core.proofs.Watched.{unwatched_well}
use Rattle.resolvo_store.proofs.QueueLemmas.{queue_new}
use Rattle.resolvo_store.proofs.clause_store.ClauseStore.new.Goals as goal

pub invariant_of-result : goal.invariant_of-result
invariant_of-result g c =
    let none : c.push-2.new.self.items ≡ [] ++ None ∷ [] = c.in_ok-push-2.ensures.items ∙ ap (λ (ps : List (Option WatchedLiterals)). ps ++ None ∷ []) c.new-watched.ensures.items in
    let a = c.in_ok-push.ensures.len in
    let b = c.in_ok-push-2.ensures.len in
    let d = c.new-clauses.ensures.len in
    let e = c.new-watched.ensures.len in
    (subst (λ (ps : List (Option WatchedLiterals)). IsWatched ps (watchers c.new-2.result)) (sym none) (unwatched_well [] (watchers c.new-2.result) c.new-2.ensures.fits), omega arith, omega arith, queue_new _ _ (g.N.Scores.ScoreMap.score_of c.new-5.result) c.new-4.result c.new-4.ensures c.new-5.ensures)

pub returns-clause-store : goal.returns-clause-store
returns-clause-store g c = record {
  candidates = c.in_ok-new.ensures.empty.candidates;
  disjunctions = c.in_ok-new.ensures.empty.disjunctions;
  learnt = c.in_ok-new.ensures.empty.learnt;
  clauses = c.in_ok-push.ensures.items ∙ ap (λ cs. cs ++ InstallRoot ∷ []) c.new-clauses.ensures.items;
  watched = c.in_ok-push-2.ensures.items ∙ ap (λ (ps : List (Option WatchedLiterals)). ps ++ None ∷ []) c.new-watched.ensures.items;
  watchers = c.new-2.ensures.empty;
  trail = ap (λ (t : Tracked). t.trail) c.new-3.ensures;
  needs = c.new-4.ensures.registered;
  score = c.new-5.ensures;
}
