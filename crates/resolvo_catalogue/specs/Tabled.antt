-- The dependencies of versions by the rules of their lines, by numbers.
use Rattle.std.specs.Prelude.{ℕ, List, [], ◌∷◌, ◌++◌, Option, Some, None, map}
use Rattle.resolvo_catalogue_core.specs.Kept.{KeptLines, rule_at}
use Rattle.resolvo_catalogue_core.specs.declared.kept_rule.KeptRule.{KeptRule}
use Rattle.resolvo_catalogue_core.specs.declared.kept_rule.KeptRule.TheVariants as kept
use Rattle.resolvo_catalogue.specs.Dependencies.{VersionDependencies, no_lines}

-- the dependencies with those of a line with this rule more
abbrev pub with_rule : VersionDependencies → Option KeptRule → VersionDependencies
with_rule deps None = deps
with_rule deps (Some (kept.Needs of need)) = record deps { requirements = deps.requirements ++ need ∷ [] }
with_rule deps (Some (kept.Limits of v)) = record deps { constrains = deps.constrains ++ v ∷ [] }
with_rule deps (Some (kept.Unknown of w)) = record deps { unknown = Some w }
with_rule deps (Some (kept.Lock locked)) = deps
with_rule deps (Some (kept.Exclude excluded w)) = deps

-- the dependencies with those of these lines more
abbrev pub deps_from : List (Option KeptRule) → VersionDependencies → List ℕ → VersionDependencies
deps_from rules deps [] = deps
deps_from rules deps (n ∷ numbers) = deps_from rules (with_rule deps (rule_at rules n)) numbers

abbrev pub deps_by : List (Option KeptRule) → List ℕ → VersionDependencies
deps_by rules numbers = deps_from rules no_lines numbers

-- those of each version
abbrev pub deps_in : KeptLines → List VersionDependencies
deps_in k = map (deps_by k.rules) k.owned
