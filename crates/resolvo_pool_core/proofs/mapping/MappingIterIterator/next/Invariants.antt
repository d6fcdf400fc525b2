use Rattle.std.proofs.Common.{◌≡◌, ◌≤◌, ◌+◌, length}
use Rattle.resolvo_pool_core.specs.Slots.{pairs_from}
use Rattle.resolvo_pool_core.proofs.mapping.MappingIterIterator.next.Given as goal

abbrev pub invariant-loop-first : goal.invariant-loop-first
invariant-loop-first g l = (pairs_from l.self.next l.self.slots.now ≡ pairs_from l.initial.self.next l.initial.self.slots.now) × (l.self.next + length l.self.slots.now ≤ 4294967295)

abbrev pub decreases-loop-first : goal.decreases-loop-first
decreases-loop-first g l = length l.self.slots.now
