use Rattle.std.proofs.Common.{◌≡◌, map, take}
use Rattle.resolvo.specs.Conflicts.{clause_of_step}
use Rattle.resolvo.proofs.conflict.clauses_at.Given as goal

-- the clauses of the places so far
abbrev pub invariant-loop-place : goal.invariant-loop-place
invariant-loop-place l = record { are : l.clauses.items ≡ map clause_of_step (take l.place-index l.places) }
