use Rattle.std.proofs.Common.{◌≡◌, ◌-◌, length}
use Rattle.resolvo_store_core.specs.Watches.{watchers, IsAt}
use Rattle.resolvo_sat.specs.Pending.{Proceeds}
use Rattle.resolvo_sat.proofs.state.SatState.visit_new.Given as goal

abbrev pub invariant-loop-clause : goal.invariant-loop-clause
invariant-loop-clause l = record {
  proceeds : Proceeds l.initial.self l.self l.initial.watching l.watching;
  at : IsAt l.watching.watches l.cursor;
  literal : l.cursor.literal ≡ l.fn.literal;
}

abbrev pub decreases-loop-clause : goal.decreases-loop-clause
decreases-loop-clause l = length (watchers l.watching.watches l.fn.literal) - l.cursor.place
