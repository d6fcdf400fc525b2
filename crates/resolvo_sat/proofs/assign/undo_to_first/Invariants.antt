use Rattle.std.proofs.Common.{length}
use Rattle.resolvo_sat.specs.Steps.{Shortens}
use Rattle.resolvo_sat.proofs.assign.undo_to_first.Given as goal

abbrev pub invariant-loop-tracker : goal.invariant-loop-tracker
invariant-loop-tracker l = Shortens l.initial.tracker l.tracker

abbrev pub decreases-loop-tracker : goal.decreases-loop-tracker
decreases-loop-tracker l = length l.tracker.trail
