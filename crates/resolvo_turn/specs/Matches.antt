-- The matches of cases, which become clauses before those of several cases of one need.
use Rattle.std.specs.Prelude.{◌≡◌, Bool, List, Option, Contains}
use Rattle.resolvo_pool_core.specs.declared.id.VersionSetId.{VersionSetId}
use Rattle.resolvo_pool_core.specs.declared.requirement.ConditionalRequirement.{ConditionalRequirement}
use Rattle.resolvo_pool_core.specs.RuleKeeping.{Packages, Rules, IsLawful, rules_for}
use Rattle.resolvo_packages.specs.declared.package_source.PackageSource as source
use Rattle.resolvo_sat.specs.RuleClauses.{IsOfCase, cases_for}
use Rattle.resolvo_encoder.specs.declared.conditions.ConditionSet.{ConditionSet}
use Rattle.resolvo_encoder.specs.declared.encoder.Encoder.{Encoder}
use Rattle.resolvo_encoder.specs.Cases.{AreSets, sets_case}
use Rattle.resolvo_encoder.specs.Encoded.{IsEncoding}
use Rattle.resolvo_encoder.specs.Steps.{IsBuilt, Extends}
use Rattle.resolvo_turn.specs.Encoder.{IsInOrderBy}

-- The matches of these version sets are clauses where their packages are marked `many`.
pub record MatchesSets {N S : Type 0} (same : S → S → Bool) (sets : List (ConditionSet N S)) (old new : Encoder N S) : Type 0 where
  pub built : IsBuilt new
  pub extends : Extends old new
  pub lists : new.lists ≡ old.lists
  pub encoding : (p : Packages N S) (root : Rules) → IsLawful p → IsEncoding same p root old
      → AreSets same p sets
      → ((v : VersionSetId) → Contains (sets_case sets) v → IsOfCase same p root v)
      → IsEncoding same p root new

-- The same of the version sets of a case of the parent's requirement: an encoding in order stays
-- one.
abbrev pub MatchesCase : {A N S C : Type 0} → (S → S → Bool) → source.Ghosts A N S C → A → Option S → ConditionalRequirement → List (ConditionSet N S) → Encoder N S → Encoder N S → Type 0
MatchesCase same g a parent need sets old new = (root : Rules) → IsInOrderBy same g a root old
    → AreSets same (g.packages a) sets
    → Contains (rules_for same (g.packages a) root parent).requirements need
    → Contains (cases_for same (g.packages a) need) (sets_case sets)
    → IsInOrderBy same g a root new
