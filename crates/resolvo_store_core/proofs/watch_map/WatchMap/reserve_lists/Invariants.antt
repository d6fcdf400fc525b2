use Rattle.std.proofs.Common.{◌≡◌, ◌≤◌, ℕ, ◌-◌, length}
use Rattle.resolvo_store_core.specs.Links.{named_at}
use Rattle.resolvo_store_core.proofs.watch_map.WatchMap.reserve_lists.Given as goal

-- the lists that were added are empty
abbrev pub invariant-loop-self : goal.invariant-loop-self
invariant-loop-self l = record {
  firsts : (i : ℕ) → named_at l.self.firsts.items i ≡ named_at l.initial.self.firsts.items i;
  nexts : l.self.nexts ≡ l.initial.self.nexts;
  longer : length l.initial.self.firsts.items ≤ length l.self.firsts.items;
}

abbrev pub decreases-loop-self : goal.decreases-loop-self
decreases-loop-self l = l.count - length l.self.firsts.items
