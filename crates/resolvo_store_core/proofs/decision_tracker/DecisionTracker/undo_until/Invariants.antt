use Rattle.std.proofs.Common.{◌≡◌, length}
use Rattle.resolvo_store_core.specs.Trail.{TakesAway, last_level}
use Rattle.resolvo_store_core.proofs.decision_tracker.DecisionTracker.undo_until.Given as goal

abbrev pub invariant-loop-top : goal.invariant-loop-top
invariant-loop-top l = TakesAway l.level l.initial.self l.self × (l.top ≡ last_level l.self.trail)

abbrev pub decreases-loop-top : goal.decreases-loop-top
decreases-loop-top l = length l.self.trail
