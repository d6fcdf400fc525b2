use Rattle.std.proofs.Common.{◌≡◌, take, map}
use Rattle.resolvo_packages.specs.PackageSource.{offer_by}
use Rattle.resolvo_packages.proofs.cached_packages.CachedPackages.offered.Given as goal

-- the solvables so far are offered
abbrev pub invariant-loop-solvable : goal.invariant-loop-solvable
invariant-loop-solvable g l = l.offered.items ≡ map (offer_by (g.D.Interner.name_of_solvable l.self)) (take l.solvable-index l.solvables)
