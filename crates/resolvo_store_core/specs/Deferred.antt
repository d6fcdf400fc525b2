-- The texts of a deferred version set.
use Rattle.std.specs.Prelude.{List}
use Rattle.resolvo_pool_core.specs.declared.id.VersionSetId.{VersionSetId}
use Rattle.resolvo_store_core.specs.declared.conditions.DeferredConjunct.{DeferredConjunct}

abbrev pub version_set_of : {S : Type 0} → DeferredConjunct S → VersionSetId
version_set_of d = d.version_set

abbrev pub candidates_of : {S : Type 0} → DeferredConjunct S → List S
candidates_of d = d.candidates.items
