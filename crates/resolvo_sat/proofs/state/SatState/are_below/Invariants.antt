use Rattle.std.proofs.Common.{◌≤◌, length}
use Rattle.resolvo_sat.specs.Entries.{before}
use Rattle.resolvo_sat.specs.Analysis.{AreDeniedBelow}
use Rattle.resolvo_sat.proofs.state.SatState.are_below.Given as goal

abbrev pub invariant-loop-place : goal.invariant-loop-place
invariant-loop-place l = record {
  in_range : l.place ≤ length l.self.tracker.trail;
  goes_on : AreDeniedBelow l.seen (before l.self.tracker.trail l.place) l.level → AreDeniedBelow l.seen (before l.self.tracker.trail l.fn.place) l.level;
}

abbrev pub decreases-loop-place : goal.decreases-loop-place
decreases-loop-place l = l.place
