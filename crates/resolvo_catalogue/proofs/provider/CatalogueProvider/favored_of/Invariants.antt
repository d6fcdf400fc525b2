use Rattle.std.proofs.Common.{◌≡◌, drop}
use Rattle.std.specs.List.{find}
use Rattle.resolvo_catalogue.specs.Ids.{SolvableId}
use Rattle.resolvo_catalogue.specs.Provider.{marks_at}
use Rattle.resolvo_catalogue.proofs.provider.CatalogueProvider.favored_of.Given as goal

abbrev pub invariant-loop-version : goal.invariant-loop-version
invariant-loop-version l = find (λ (s : SolvableId). (marks_at l.self s).favored) (drop l.version-index l.versions) ≡ find (λ (s : SolvableId). (marks_at l.self s).favored) l.versions
