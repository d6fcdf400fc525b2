use Rattle.std.proofs.Common.{◌≡◌, Some, take}
use Rattle.resolvo_packages.specs.Forbidden.{locked_out}
use Rattle.resolvo_packages.proofs.cached_packages.forbidden_by_lock.Given as goal

-- of the candidates so far, the list has those that the lock keeps out
abbrev pub invariant-loop-solvable : goal.invariant-loop-solvable
invariant-loop-solvable g l = l.forbidden.items ≡ locked_out g.S.PartialEq.eq (Some l.locked) (take l.solvable-index l.candidates)
