use Rattle.std.proofs.Common.{◌≤◌, [], ◌∷◌, length}
use Rattle.resolvo_sat.specs.Entries.{before, literal_of}
use Rattle.resolvo_sat.specs.Analysis.{Walks, denied}
use Rattle.resolvo_sat.proofs.state.SatState.reason.Given as goal

abbrev pub invariant-loop-at : goal.invariant-loop-at
invariant-loop-at l = record {
  walks : Walks l.self (literal_of l.fn.entry ∷ []) l.at l.seen l.kept.items l.causes.items;
  few : length (denied l.seen (before l.self.tracker.trail l.at)) ≤ l.marked.all;
}

abbrev pub decreases-loop-at : goal.decreases-loop-at
decreases-loop-at l = l.at
