use Rattle.std.proofs.Common.{◌≡◌, take}
use Rattle.resolve_order.proofs.key_places.widened.Given as goal

-- the numbers so far were copied
abbrev pub invariant-loop-place : goal.invariant-loop-place
invariant-loop-place l = l.wide.items ≡ take l.place l.narrow
