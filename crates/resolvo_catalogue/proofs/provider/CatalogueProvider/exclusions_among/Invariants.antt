use Rattle.std.proofs.Common.{◌≡◌, ◌++◌, drop}
use Rattle.std.specs.List.{flat_map}
use Rattle.resolvo_catalogue.specs.Provider.{exclusion_of}
use Rattle.resolvo_catalogue.proofs.provider.CatalogueProvider.exclusions_among.Given as goal

abbrev pub invariant-loop-version : goal.invariant-loop-version
invariant-loop-version l = l.excluded.items ++ flat_map (exclusion_of l.self) (drop l.version-index l.versions) ≡ flat_map (exclusion_of l.self) l.versions
