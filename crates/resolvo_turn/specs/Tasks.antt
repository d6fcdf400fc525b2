-- The tasks of an encoding, and what it excluded.
use Rattle.std.specs.Prelude.{◌≡◌, ℕ, ◌+◌, ◌-◌, Bool, List, [], ◌∷◌, Contains}
use Rattle.resolvo_pool_core.specs.declared.id.StringId.{StringId}
use Rattle.resolvo_pool_core.specs.declared.provider.Dependencies.TheVariants.{Unknown}
use Rattle.resolvo_pool_core.specs.Provider.{needs_of}
use Rattle.resolvo_pool_core.specs.RuleKeeping.{Packages, IsLawful, Rules as RootRules}
use Rattle.resolvo_packages.specs.declared.package_source.PackageSource as source
use Rattle.resolvo_sat.specs.RuleClauses.{IsForbidden}
use Rattle.resolvo_encoder.specs.declared.encoder.Encoder.{Encoder}
use Rattle.resolvo_encoder.specs.Encoded.{IsEncoding, rules_of}
use Rattle.resolvo_turn.specs.Encoder.{IsInOrderBy}
use Rattle.resolvo_turn.specs.declared.tasks.Task.{Task}
use Rattle.resolvo_turn.specs.declared.tasks.Task.TheVariants.{Dependencies, Rules, Matches, Case}
use Rattle.resolvo_turn.specs.declared.tasks.Tasks.{Tasks}

-- the rules of a parent end a run of tasks, any other task costs one
unfoldable pub cost : {S : Type 0} → Task S → ℕ
cost (Dependencies parent) = 1
cost Rules = 0
cost (Matches place) = 1
cost (Case place) = 1

unfoldable pub work : {S : Type 0} → List (Task S) → ℕ
work [] = 0
work (t ∷ ts) = cost t + work ts

-- the cost of the tasks that are left
abbrev pub work_left : {S : Type 0} → Tasks S → ℕ
work_left t = work t.queue.items

-- the cost of these, and of the questions for parents that may come
abbrev pub bound : {S : Type 0} → Tasks S → ℕ
bound t = work_left t + (18446744073709551616 - t.queued)

-- clauses exclude each of these solvables
abbrev pub AreExcluded : {N S : Type 0} → List S → Encoder N S → Type 0
AreExcluded {N} {S} excluded e = (s : S) → Contains excluded s → IsForbidden (rules_of e) s

-- A solvable whose dependencies are unknown for this reason is excluded by a clause, as those are
-- that were excluded before.
pub record Excludes {N S : Type 0} (same : S → S → Bool) (s : S) (why : StringId) (before after : List S) (old new : Encoder N S) : Type 0 where
  pub lists : new.lists ≡ old.lists
  pub stays : (p : Packages N S) (root : RootRules) → IsLawful p
      → p.dependencies_of s ≡ needs_of (Unknown why) → IsEncoding same p root old
      → IsEncoding same p root new
  pub excluded : (p : Packages N S) (root : RootRules) → IsLawful p
      → p.dependencies_of s ≡ needs_of (Unknown why) → IsEncoding same p root old
      → AreExcluded before old → AreExcluded after new × IsForbidden (rules_of new) s

-- where an encoding was in order, clauses still exclude what was excluded
abbrev pub KeepsExcluded : {A N S C : Type 0} → (S → S → Bool) → source.Ghosts A N S C → A → List S → List S → Encoder N S → Encoder N S → Type 0
KeepsExcluded same g a before after old new = (root : RootRules) → IsInOrderBy same g a root old
    → AreExcluded before old → AreExcluded after new
