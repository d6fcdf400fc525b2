use Rattle.std.proofs.Common.{◌≡◌, ◌-◌, ◌+◌, length}
use Rattle.resolvo_sat.specs.Marks.{flags, AreUpTo, AreSame}
use Rattle.resolvo_sat.proofs.marks.Marks.make_room.Given as goal

-- the same variables are marked, by the same walk
abbrev pub invariant-loop-self : goal.invariant-loop-self
invariant-loop-self l = (l.self-inside.walk ≡ l.initial.self-inside.walk) × AreUpTo l.self-inside.walk l.self-inside.walks.items × AreSame (flags l.initial.self-inside.walk l.initial.self-inside.walks.items) (flags l.self-inside.walk l.self-inside.walks.items)

abbrev pub decreases-loop-self : goal.decreases-loop-self
decreases-loop-self l = l.index + 1 - length l.self-inside.walks.items
