use Rattle.std.proofs.Common.{take}
use Rattle.resolvo_store_core.specs.Watches.{watchers, HasRoom, SameLists}
use Rattle.resolvo_store_core.proofs.watch_map.WatchMap.make_room.Given as goal

-- there is room at each literal so far, and no list changed
abbrev pub invariant-loop-target : goal.invariant-loop-target
invariant-loop-target l = SameLists (watchers l.initial.self) (watchers l.self) × HasRoom l.self (take l.target-index l.moves)
