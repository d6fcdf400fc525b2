use Rattle.std.proofs.Common.{length}
use Rattle.resolvo_sat.specs.UnitsDone.{DropsDone}
use Rattle.resolvo_sat.proofs.watch_lists.WatchLists.last_done.Given as goal

abbrev pub invariant-loop-done : goal.invariant-loop-done
invariant-loop-done l = DropsDone l.initial.self l.self

abbrev pub decreases-loop-done : goal.decreases-loop-done
decreases-loop-done l = length l.self.units_done.items
