use Rattle.std.proofs.Common.{◌≤◌, [], length}
use Rattle.resolvo_sat.specs.Entries.{before}
use Rattle.resolvo_sat.specs.Analysis.{Walks, IsMet, denied}
use Rattle.resolvo_sat.proofs.state.SatState.analyze.Given as goal

abbrev pub invariant-loop-place : goal.invariant-loop-place
invariant-loop-place l = record {
  walks : Walks l.self [] l.place l.seen l.kept.items l.causes.items;
  met : IsMet l.self l.seen l.met.items;
  few : length (denied l.seen (before l.self.tracker.trail l.place)) ≤ l.marked.all;
}

abbrev pub decreases-loop-place : goal.decreases-loop-place
decreases-loop-place l = l.place
