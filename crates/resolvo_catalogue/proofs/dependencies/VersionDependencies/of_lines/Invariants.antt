use Rattle.std.proofs.Common.{◌≡◌, drop}
use Rattle.resolvo_catalogue.specs.Dependencies.{deps_of}
use Rattle.resolvo_catalogue.specs.Tabled.{deps_by, deps_from}
use Rattle.resolvo_catalogue.proofs.dependencies.VersionDependencies.of_lines.Given as goal

-- those so far, with those of the lines that are left, are those of all lines
abbrev pub invariant-loop-line : goal.invariant-loop-line
invariant-loop-line l = deps_from l.kept.rules (deps_of l.deps) (drop l.line-index l.lines) ≡ deps_by l.kept.rules l.lines
