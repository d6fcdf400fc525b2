use Rattle.std.proofs.Common.{◌≡◌, map, take}
use Rattle.resolvo_catalogue_core.specs.declared.rule.VersionNo.{VersionNo}
use Rattle.resolvo_catalogue.specs.Ids.{solvable_id}
use Rattle.resolvo_catalogue.proofs.provider.CatalogueProvider.versions_of.Given as goal

abbrev pub invariant-loop-version : goal.invariant-loop-version
invariant-loop-version l = l.solvables.items ≡ map (λ (v : VersionNo). solvable_id v.0) (take l.version-index l.versions)
