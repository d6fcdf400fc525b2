use Rattle.std.proofs.Common.{◌≡◌, take}
use Rattle.std.specs.List.{flat_map}
use Rattle.resolvo_pool.specs.Cached.{sorted_of}
use Rattle.resolvo_pool.proofs.cache.SolverCache.joined.Given as goal

-- the lists of the version sets so far were joined
abbrev pub invariant-loop-version_set : goal.invariant-loop-version_set
invariant-loop-version_set g l = l.joined.items ≡ flat_map (sorted_of l.self.sorted) (take l.version_set-index l.members)
