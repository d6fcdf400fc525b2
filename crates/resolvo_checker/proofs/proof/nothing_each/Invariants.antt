use Rattle.std.proofs.Common.{◌≡◌, replicate, None}
use Rattle.resolvo_checker.proofs.proof.nothing_each.Given as goal

abbrev pub invariant-loop : goal.invariant-loop
invariant-loop g l = l.places.items ≡ replicate l.counter None
