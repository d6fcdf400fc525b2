use Rattle.std.proofs.Common.{◌≡◌, sym, ◌∙◌, ap, subst}
use Rattle.resolvo_store.specs.Stored.{Kept, plain, Like}
use Rattle.resolvo_store.specs.Changes.{down_to, undone_until}
use Rattle.resolvo_store.proofs.Plain.{trail_like}
use Rattle.resolvo_store.proofs.Undone.{down_to_is}
use Rattle.resolvo_store_core.proofs.Trails.{seen_undone}
use Rattle.resolvo_store.proofs.clause_store.ClauseStore.undo_until.Goals as goal

pub returns : goal.returns
returns g c =
    let score = g.N.Scores.ScoreMap.score_of in
    let in_it = c.self.inside in
    let k : Kept _ _ = record { lists = in_it.lists; clauses = in_it.clauses.items; watched = in_it.watched.items; watches = in_it.watches; trail = in_it.tracker.trail; needs = in_it.queue.registered.items; scores = in_it.scores } in
    let took = c.undo_until.ensures.0 in
    let left : c.undo_until.new.self.trail ≡ down_to c.args.level in_it.tracker.trail = sym (ap (down_to c.args.level) took.trail ∙ down_to_is c.args.level c.undo_until.new.self.trail took.undone c.undo_until.ensures.1 took.above) in
    subst (λ o. Like (plain score (record k { trail = c.undo_until.new.self.trail })) (undone_until c.args.level (plain score o))) c.self.view_is (trail_like score k c.undo_until.new.self.trail _ left)

pub invariant_of-self : goal.invariant_of-self
invariant_of-self g c =
    let inv = c.self.invariant in
    (inv.0, inv.1, inv.2, record { sound = inv.3.sound; seen = seen_undone c.args.level c.self.inside.tracker c.undo_until.new.self c.undo_until.ensures.0 c.self.inside.queue.undecided.seen.items inv.3.seen; hot = inv.3.hot; unknown = inv.3.unknown })
