use Rattle.std.proofs.Common.{◌≡◌, ℕ, ◌==◌, true, List, length, Some, sym, ◌∙◌, ap, subst}
use Rattle.resolvo_store_core.specs.declared.decision.Entry.{Entry}
use Rattle.resolvo_store.specs.Stored.{Kept, plain, Like}
use Rattle.resolvo_store.specs.Changes.{all_but_last, last_undone, undone}
use Rattle.resolvo_store.proofs.Plain.{trail_like}
use Rattle.resolvo_store.proofs.Undone.{all_but_last_is, last_undone_is, empty_undone}
use Rattle.resolvo_store_core.proofs.Trails.{seen_popped}
use Rattle.resolvo_store.proofs.clause_store.ClauseStore.undo_last.Goals as goal

pub returns-clause-answer : goal.returns-clause-answer
returns-clause-answer g c =
    let popped = c.undo_last.ensures.popped in
    sym (ap last_undone (ap (λ k. k.trail) (sym c.self.view_is) ∙ popped.trail) ∙ last_undone_is c.undo_last.new.self.trail (record { decision = c.undo_last.result.0; level = popped.level })
    ∙ ap (λ (n : ℕ). Some (c.undo_last.result.0, n)) (sym c.undo_last.ensures.level))

pub returns-clause-store : goal.returns-clause-store
returns-clause-store g c =
    let score = g.N.Scores.ScoreMap.score_of in
    let in_it = c.self.inside in
    let k : Kept _ _ = record { lists = in_it.lists; clauses = in_it.clauses.items; watched = in_it.watched.items; watches = in_it.watches; trail = in_it.tracker.trail; needs = in_it.queue.registered.items; scores = in_it.scores } in
    let popped = c.undo_last.ensures.popped in
    let left : c.undo_last.new.self.trail ≡ all_but_last in_it.tracker.trail = sym (ap all_but_last popped.trail ∙ all_but_last_is c.undo_last.new.self.trail (record { decision = c.undo_last.result.0; level = popped.level })) in
    subst (λ o. Like (plain score (record k { trail = c.undo_last.new.self.trail })) (undone (plain score o))) c.self.view_is (trail_like score k c.undo_last.new.self.trail _ left)

pub returns-then-is_empty-clause-store : goal.returns-then-is_empty-clause-store
returns-then-is_empty-clause-store g c =
    let score = g.N.Scores.ScoreMap.score_of in
    let in_it = c.self.inside in
    let k : Kept _ _ = record { lists = in_it.lists; clauses = in_it.clauses.items; watched = in_it.watched.items; watches = in_it.watches; trail = in_it.tracker.trail; needs = in_it.queue.registered.items; scores = in_it.scores } in
    let none : (length in_it.tracker.trail == 0) ≡ true = subst (λ (es : List Entry). (length es == 0) ≡ true) c.stack.ensures.trail (sym c.is_empty.ensures ∙ c.if-is_empty.true) in
    subst (λ o. Like (plain score o) (undone (plain score o))) c.self.view_is (trail_like score k in_it.tracker.trail (all_but_last in_it.tracker.trail) (empty_undone in_it.tracker.trail none))

pub invariant_of-self : goal.invariant_of-self
invariant_of-self g c =
    let inv = c.self.invariant in
    (inv.0, inv.1, inv.2, record { sound = inv.3.sound; seen = seen_popped c.self.inside.tracker c.undo_last.new.self c.undo_last.result.0 c.undo_last.ensures.popped c.self.inside.queue.undecided.seen.items inv.3.seen; hot = inv.3.hot; unknown = inv.3.unknown })
