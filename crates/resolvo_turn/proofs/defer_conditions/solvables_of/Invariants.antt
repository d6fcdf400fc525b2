use Rattle.std.proofs.Common.{◌≡◌, take}
use Rattle.resolvo_packages.specs.PackageSource.{offered_solvables}
use Rattle.resolvo_turn.proofs.defer_conditions.solvables_of.Given as goal

-- the solvables so far
abbrev pub invariant-loop-one : goal.invariant-loop-one
invariant-loop-one g l = l.solvables.items ≡ offered_solvables (take l.one-index l.offered)
