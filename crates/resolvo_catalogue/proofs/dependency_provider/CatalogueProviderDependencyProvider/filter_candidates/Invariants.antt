use Rattle.std.proofs.Common.{◌≡◌, ◌++◌, drop}
use Rattle.resolvo_pool_core.specs.Provider.{kept}
use Rattle.resolvo_catalogue.specs.Provider.{matches}
use Rattle.resolvo_catalogue.proofs.dependency_provider.CatalogueProviderDependencyProvider.filter_candidates.Given as goal

-- the matches found, with those of the remaining candidates, are those of all candidates
abbrev pub invariant-loop-candidate : goal.invariant-loop-candidate
invariant-loop-candidate l =
    l.found.items ++ kept (matches l.self l.fn.version_set) l.inverse (drop l.candidate-index l.candidates) ≡ kept (matches l.self l.fn.version_set) l.inverse l.candidates
