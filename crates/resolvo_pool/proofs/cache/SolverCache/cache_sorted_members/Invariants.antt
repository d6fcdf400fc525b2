use Rattle.std.proofs.Common.{◌≡◌, ℕ, ◌<◌, slice_index_or, true}
use Rattle.resolvo_pool_core.specs.declared.id.VersionSetId.{VersionSetId}
use Rattle.resolvo_pool.specs.Cached.{Extends, AddsSorted, is_sorted}
use Rattle.resolvo_pool.proofs.cache.SolverCache.cache_sorted_members.Given as goal

-- what was kept is kept, the sorted lists of the version sets so far are, and of unions and solvables nothing more
abbrev pub invariant-loop-version_set : goal.invariant-loop-version_set
invariant-loop-version_set g l =
    Extends g.D.NameId.PartialEq.eq g.D.SolvableId.PartialEq.eq l.initial.self l.self × ((k : ℕ) → k < l.version_set-index → (d : VersionSetId) → is_sorted l.self.sorted (slice_index_or l.members k d) ≡ true) × AddsSorted l.initial.self l.self
