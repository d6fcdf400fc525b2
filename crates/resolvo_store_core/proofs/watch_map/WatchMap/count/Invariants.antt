use Rattle.std.proofs.Common.{◌≡◌, ◌≤◌, ◌-◌, length}
use Rattle.resolvo_store_core.specs.Watches.{watchers, IsAt}
use Rattle.resolvo_store_core.proofs.watch_map.WatchMap.count.Given as goal

abbrev pub invariant-loop-cursor : goal.invariant-loop-cursor
invariant-loop-cursor l = record {
  at : IsAt l.self l.cursor;
  literal : l.cursor.literal ≡ l.fn.literal;
  within : l.cursor.place ≤ length (watchers l.self l.fn.literal);
}

abbrev pub decreases-loop-cursor : goal.decreases-loop-cursor
decreases-loop-cursor l = length (watchers l.self l.fn.literal) - l.cursor.place
