use Rattle.std.proofs.Common.{◌≡◌, ℕ, take, map}
use Rattle.resolvo_catalogue_core.specs.declared.rule.VersionNo.{VersionNo}
use Rattle.resolvo_catalogue.specs.Ids.{solvable_id}
use Rattle.resolvo_catalogue.proofs.provider.CatalogueProvider.intern_request.Given as goal

abbrev pub invariant-loop-version : goal.invariant-loop-version
invariant-loop-version l = l.wishes.items ≡ map (λ (f : ℕ × VersionNo). solvable_id f.1.0) (take l.version-index l.version-items)
