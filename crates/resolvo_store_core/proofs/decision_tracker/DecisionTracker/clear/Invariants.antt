use Rattle.std.proofs.Common.{length}
use Rattle.resolvo_store_core.proofs.decision_tracker.DecisionTracker.clear.Given as goal

abbrev pub decreases-loop-self : goal.decreases-loop-self
decreases-loop-self l = length l.self.trail
