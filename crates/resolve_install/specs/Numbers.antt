-- The numbers of solvables' versions.
use Rattle.std.specs.Prelude.{List, map}
use Rattle.resolvo_catalogue_core.specs.declared.rule.VersionNo.{VersionNo}
use Rattle.resolvo_catalogue.specs.Ids.{SolvableId}

abbrev pub numbers_of : List SolvableId → List VersionNo
numbers_of chosen = map (λ s. record { 0 = s.raw }) chosen
