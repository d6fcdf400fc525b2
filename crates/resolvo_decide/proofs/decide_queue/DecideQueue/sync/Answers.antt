use Rattle.std.proofs.Common.{◌≡◌, ℕ, List, take, sym, ◌∙◌, ap, subst}
use Rattle.resolvo_store_core.specs.AtMostOne.{IsPrefixOf}
use Rattle.resolvo_store_core.specs.Trail.{Tracked}
use Rattle.resolvo_store_core.specs.declared.decision.Entry.{Entry}
use Rattle.resolvo_store_core.proofs.Trails.{seen_prefix}
use Rattle.resolvo_decide.specs.Needs.{literals_in}
use Rattle.resolvo_decide.specs.Queue.{needs_of}
use Rattle.resolvo_decide.proofs.decide_queue.DecideQueue.sync.Goals as goal

pub sync-requires-clause-seen : goal.sync-requires-clause-seen
sync-requires-clause-seen g c =
    let same : c.stack.result.now ≡ c.args.trail.now.trail = c.stack.ensures.trail ∙ ap (λ (t : Tracked). t.trail) c.take_sync_floor-floor.ensures.anew in
    let left = c.truncate.ensures.seen ∙ ap (λ (n : ℕ). take n c.args.self.now.undecided.seen.items) c.take_sync_floor-floor.ensures.floor in
    subst (λ (es : List Entry). IsPrefixOf c.truncate.new.self.seen.items es) (sym same) (subst (λ (es : List Entry). IsPrefixOf es c.args.trail.now.trail) (sym left) c.requires)

pub returns-clause-synced : goal.returns-clause-synced
returns-clause-synced g c = record { seen = c.in_ok-sync.ensures.synced ∙ c.stack.ensures.trail; once = c.stack.ensures.once }

pub returns-clause-sound : goal.returns-clause-sound
returns-clause-sound g c = λ lists h. record { fits = c.sync.ensures.fits (literals_in lists) (needs_of c.args.self.now) (c.truncate.ensures.fits (literals_in lists) (needs_of c.args.self.now) h.fits); cold = h.cold }

pub returns-clause-seen : goal.returns-clause-seen
returns-clause-seen g c = seen_prefix c.take_sync_floor-floor.new.self c.sync.new.self.seen.items (subst (λ (es : List Entry). IsPrefixOf c.sync.new.self.seen.items es) c.stack.ensures.trail c.sync.ensures.seen)

pub returns-in_err-sync-clause-sound : goal.returns-in_err-sync-clause-sound
returns-in_err-sync-clause-sound g c = λ lists h. record { fits = c.sync.ensures.fits (literals_in lists) (needs_of c.args.self.now) (c.truncate.ensures.fits (literals_in lists) (needs_of c.args.self.now) h.fits); cold = h.cold }

pub returns-in_err-sync-clause-seen : goal.returns-in_err-sync-clause-seen
returns-in_err-sync-clause-seen g c = seen_prefix c.take_sync_floor-floor.new.self c.sync.new.self.seen.items (subst (λ (es : List Entry). IsPrefixOf c.sync.new.self.seen.items es) c.stack.ensures.trail c.sync.ensures.seen)
