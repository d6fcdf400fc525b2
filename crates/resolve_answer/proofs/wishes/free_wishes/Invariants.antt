use Rattle.std.proofs.Common.{◌≡◌, take}
use Rattle.resolve_answer.specs.Wishes.{free_of}
use Rattle.resolve_answer.proofs.wishes.free_wishes.Given as goal

-- the free ones of the wishes so far
abbrev pub invariant-loop-wish : goal.invariant-loop-wish
invariant-loop-wish l = record { are : l.free.items ≡ free_of (take l.wish-index l.wishes) }
