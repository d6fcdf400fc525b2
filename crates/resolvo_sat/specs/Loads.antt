-- What is encoded of one parent at a time.
use Rattle.std.specs.Prelude.{◌≡◌, ◌⊎◌, Bool, true, List, Option, Some, Contains}
use Rattle.resolvo_pool_core.specs.declared.id.VersionSetId.{VersionSetId}
use Rattle.resolvo_pool_core.specs.declared.requirement.ConditionalRequirement.{ConditionalRequirement}
use Rattle.resolvo_pool_core.specs.RuleKeeping.{Packages, Rules, is_unknown, is_outside, rules_for}
use Rattle.resolvo_sat.specs.RuleClauses.{Rule, cases_for, IsForbiddenIn, IsForbidden}
use Rattle.resolvo_sat.specs.SearchEnd.{IsNeedEncoded}

-- a case of a parent's need that has no clause until it holds
pub record Deferred (S : Type 0) : Type 0 where
  pub parent : Option S
  pub need : ConditionalRequirement
  pub case : List VersionSetId

module _ {N S : Type 0} (same : S → S → Bool) (p : Packages N S) where
  -- the rules of the parent are clauses, but for the cases that wait
  pub record IsParentEncoded (rules : Rule N S → Type 0) (root : Rules) (waiting : Deferred S → Type 0) (parent : Option S) : Type 0 where
    pub need : (need : ConditionalRequirement) (case : List VersionSetId) → Contains (rules_for same p root parent).requirements need → Contains (cases_for same p need) case → IsNeedEncoded same p rules parent need case ⊎ waiting (record { parent = parent; need = need; case = case })
    pub limit : (v : VersionSetId) (s : S) → Contains (rules_for same p root parent).constraints v → is_outside same p v s ≡ true → rules (Rule.limits parent v s) ⊎ (rules (Rule.limits_outside parent v) × rules (Rule.is_out v s))
    pub forbid : (v : VersionSetId) (s : S) → Contains (rules_for same p root parent).constraints v → IsForbiddenIn same p (p.set_package v) s → IsForbidden rules s
    pub unknown : (s : S) → parent ≡ Some s → is_unknown (p.dependencies_of s) ≡ true → IsForbidden rules s
