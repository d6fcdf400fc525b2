use Rattle.std.proofs.Common.{◌≡◌, ◌&&◌, true, sym, ◌∙◌, ap, subst}
use Rattle.resolvo_store_core.specs.Lists.{named_by}
use Rattle.resolvo_store_core.specs.Clauses.{is_own_in_range, lists_exist, literals_by}
use Rattle.resolvo_store.specs.Stored.{Kept, plain, names_in}
use Rattle.resolvo_store.specs.Calls.{can_add, can_watch, has_condition, has_candidates_for, has_learnt_in}
use Rattle.resolvo_store.proofs.Plain.{names_plain}
use Rattle.resolvo_store.proofs.FitLemmas.{literals_same, lists_plain}
use Rattle.resolvo_store.proofs.clause_store.ClauseStore.can_add.Goals as goal

pub returns : goal.returns
returns g c =
    let score = g.N.Scores.ScoreMap.score_of in
    let in_it = c.self.inside in
    let k : Kept _ _ = record { lists = in_it.lists; clauses = in_it.clauses.items; watched = in_it.watched.items; watches = in_it.watches; trail = in_it.tracker.trail; needs = in_it.queue.registered.items; scores = in_it.scores } in
    let s = plain score k in
    let own : is_own_in_range c.args.clause.now ≡ true = sym c.is_in_range.ensures ∙ c.if-not-is_in_range.false in
    let there : lists_exist (has_condition s) (has_candidates_for s) (has_learnt_in s) c.args.clause.now ≡ true = sym (lists_plain score k c.args.clause.now) ∙ sym c.has_lists.ensures ∙ c.if-not-has_lists.false in
    let watches : c.is_watchable.result ≡ can_watch (literals_by (names_in s) c.args.clause.now) c.args.watched = c.is_watchable.ensures ∙ ap (λ ls. can_watch ls c.args.watched) (literals_same (named_by k.lists) (names_in s) (names_plain score k) c.args.clause.now) in
    subst (λ o. c.is_watchable.result ≡ can_add (plain score o) c.args.clause.now c.args.watched) c.self.view_is
    (watches ∙ sym (ap (λ b. b && (lists_exist (has_condition s) (has_candidates_for s) (has_learnt_in s) c.args.clause.now && can_watch (literals_by (names_in s) c.args.clause.now) c.args.watched)) own ∙ ap (λ b. b && can_watch (literals_by (names_in s) c.args.clause.now) c.args.watched) there))
