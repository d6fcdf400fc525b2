use Rattle.std.proofs.Common.{◌≡◌, ◌-◌, ◌+◌}
use Rattle.resolvo_terms.specs.Found.{tries, free_from, free_of}
use Rattle.resolvo_terms.proofs.slots.Slots.free_of.Given as goal

abbrev pub invariant-loop-tried : goal.invariant-loop-tried
invariant-loop-tried l = free_from l.self.numbers.items (tries - l.tried) (l.first + l.tried) ≡ free_of l.self.numbers.items l.fn.hash
