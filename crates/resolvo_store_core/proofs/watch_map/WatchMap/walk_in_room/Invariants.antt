use Rattle.std.proofs.Common.{◌≡◌, ◌-◌, ◌≤◌, length, vec_capacity}
use Rattle.resolvo_store_core.specs.Watches.{watchers, HasRoom, IsAt}
use Rattle.resolvo_store_core.specs.Walk.{IsWalking}
use Rattle.resolvo_store_core.proofs.watch_map.WatchMap.walk_in_room.Given as goal

-- the walk met those clauses, and the ones from the cursor on are left; there is room for the rest
abbrev pub invariant-loop-clause : goal.invariant-loop-clause
invariant-loop-clause l = record {
  walking : IsWalking l.cursor.literal l.met.items l.moves l.initial.clauses (watchers l.initial.self) l.cursor.place l.rest l.clauses (watchers l.self);
  at : IsAt l.self l.cursor;
  literal : l.cursor.literal ≡ l.fn.literal;
  room : HasRoom l.self l.rest;
  met_room : length (watchers l.initial.self l.fn.literal) ≤ vec_capacity l.met;
}

abbrev pub decreases-loop-clause : goal.decreases-loop-clause
decreases-loop-clause l = length (watchers l.self l.fn.literal) - l.cursor.place
