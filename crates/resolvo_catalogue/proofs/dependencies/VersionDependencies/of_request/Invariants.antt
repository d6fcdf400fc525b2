use Rattle.std.proofs.Common.{◌+◌, ◌≤◌, take}
use Rattle.std.specs.Prelude.{sum_by}
use Rattle.resolvo_catalogue.specs.Ids.{Interns}
use Rattle.resolvo_catalogue.specs.Dependencies.{AreDependenciesOf, deps_of}
use Rattle.resolvo_catalogue.specs.IdCounts.{id_count}
use Rattle.resolvo_terms.specs.TermCounts.{ids_for_dependency}
use Rattle.resolvo_catalogue.proofs.dependencies.VersionDependencies.of_request.Given as goal

abbrev pub invariant-loop-line : goal.invariant-loop-line
invariant-loop-line l = AreDependenciesOf l.ids (take l.line l.request.lines) (deps_of l.deps) × Interns l.initial.ids l.ids
    × (id_count l.ids ≤ id_count l.initial.ids + sum_by ids_for_dependency (take l.line l.request.lines))
