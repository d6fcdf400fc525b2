use Rattle.std.proofs.Common.{◌≡◌, take, map}
use Rattle.resolvo_packages.proofs.cached_packages.CachedPackages.names_of.Given as goal

-- the names so far are the version sets'
abbrev pub invariant-loop-version_set : goal.invariant-loop-version_set
invariant-loop-version_set g l = l.names.items ≡ map (g.D.Interner.name_of_version_set l.self) (take l.version_set-index l.version_sets)
