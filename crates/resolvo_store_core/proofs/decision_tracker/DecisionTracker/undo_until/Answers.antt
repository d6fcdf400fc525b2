use Rattle.std.proofs.Common.{◌≡◌, ◌<◌, ◌∙◌, ap, subst}
use Rattle.resolvo_store_core.specs.Trail.{last_level, Tracked, TakesAway}
use Rattle.resolvo_store_core.proofs.Trails.{takes_nothing, takes_one_more}
use Rattle.resolvo_store_core.proofs.decision_tracker.DecisionTracker.undo_until.Goals as goal

pub loop-top-init : goal.loop-top-init
loop-top-init c =
    let t : Tracked = record { trail = c.self.inside.stack.items; qhead = c.self.inside.qhead; floor = c.self.inside.floor } in
    let is : t ≡ c.args.self.now = c.self.view_is in (
      subst (λ (s : Tracked). TakesAway c.args.level s s) is (takes_nothing c.args.level t c.self.invariant.qhead_within c.self.invariant.floor_within),
      c.top_level-top.ensures ∙ ap last_level c.as_slice.ensures.value ∙ ap (λ (s : Tracked). last_level s.trail) is,
    )

pub loop-top-preserved : goal.loop-top-preserved
loop-top-preserved c =
    let above : c.args.level < last_level c.loop-top.self.trail = subst (λ n. c.args.level < n) c.loop-top.invariant.1 c.loop-top-test.true in
    (takes_one_more c.args.level c.args.self.now c.loop-top.self c.undo_last-before.new.self c.undo_last-before.result.0 c.loop-top.invariant.0 c.undo_last-before.ensures.popped above, c.undo_last-before.ensures.level)
