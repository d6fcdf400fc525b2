use Rattle.resolvo_sat.specs.Pending.{KeepsLists}
use Rattle.resolvo_sat.proofs.watch_lists.WatchLists.set_place.Given as goal

abbrev pub invariant-loop : goal.invariant-loop
invariant-loop l = KeepsLists l.fn.self l.self
