use Rattle.std.proofs.Common.{◌-◌, ◌<◌, ◌≤◌, length}
use Rattle.std.specs.Prelude.{slice_index_or}
use Rattle.resolvo_state.proofs.clause_kinds.entry_of.Given as goal

-- the entry is one of these
abbrev pub invariant-loop-low : goal.invariant-loop-low
invariant-loop-low l = record {
  order : l.low ≤ l.high;
  within : l.high < length l.ends;
  above : 0 < l.low → slice_index_or l.ends (l.low - 1) 0 ≤ l.number;
  below : l.number < slice_index_or l.ends l.high 0;
}

abbrev pub decreases-loop-low : goal.decreases-loop-low
decreases-loop-low l = l.high - l.low
