use Rattle.std.proofs.Common.{◌∙◌, ◌≤◌, ap, length, sym, subst}
use Rattle.resolvo_store_core.specs.Trail.{IsSeenOf, Tracked}
use Rattle.resolvo_decide.specs.HotNames.{AreHot}
use Rattle.resolvo_decide.specs.Queue.{needs_of, IsSynced}
use Rattle.resolvo_decide.specs.declared.decide_queue.DecideQueue.{DecideQueue}
use Rattle.resolvo_encoder.specs.Steps.{IsBuilt}
use Rattle.resolvo_encoder.proofs.BuildLemmas.{built_synced}
use Rattle.resolvo_encoder.proofs.encoder.Encoder.sync_queue.Goals as goal

pub returns-clause-syncs : goal.returns-clause-syncs
returns-clause-syncs g c =
    let e = c.args.self.now in
    record {
      floor = length e.coding.search.tracker.trail;
      rest = ap (λ (t : Tracked). record e { queue = c.set_hot.new.self; coding = record e.coding { search = record e.coding.search { tracker = t } } }) c.sync.ensures.trail;
      queue = ap needs_of c.set_hot.ensures.rest ∙ ap needs_of c.sync.ensures.rest;
    }

pub returns-clause-built : goal.returns-clause-built
returns-clause-built g c =
    let e = c.args.self.now in
    let q = c.set_hot.new.self in
    let sound = c.set_hot.ensures.sound e.lists (c.sync.ensures.sound e.lists c.requires.queue) in
    let seen = subst (λ (r : DecideQueue _). IsSeenOf c.sync.new.trail r.undecided.seen.items) (sym c.set_hot.ensures.rest) c.sync.ensures.seen in
    let needs = ap needs_of c.set_hot.ensures.rest ∙ ap needs_of c.sync.ensures.rest in
    subst (λ (t : Tracked). IsBuilt (record e { queue = q; coding = record e.coding { search = record e.coding.search { tracker = t } } })) (sym c.sync.ensures.trail)
    (built_synced e q (length e.coding.search.tracker.trail) c.requires needs sound (subst (λ (t : Tracked). IsSeenOf t q.undecided.seen.items) c.sync.ensures.trail seen))

pub returns-clause-synced : goal.returns-clause-synced
returns-clause-synced g c =
    let done = c.in_ok-sync.ensures.synced in
    subst (λ (q : DecideQueue _). IsSynced q c.sync.new.trail.trail) (sym c.set_hot.ensures.rest) (record { seen = done.seen; once = done.once })

pub returns-clause-hot : goal.returns-clause-hot
returns-clause-hot g c = record {
  bounded = λ name. subst (λ n. g.C.ScoreMap.score_of c.args.scores.now.map name ≤ n) (sym c.set_hot.ensures.most) (c.most.ensures.bounded name);
  known = λ _. subst (λ names. AreHot (g.C.ScoreMap.score_of c.args.scores.now.map) names) (sym c.in_ok-set_hot.ensures.hot) c.hot.ensures;
}
