-- The sets of solvables that keep the rules of a provider and a root, and their reached parts.
use Rattle.std.specs.Prelude.{◌≡◌, ℕ, zero, suc, ◌⊎◌, Bool, true, false, not, ◌&&◌, ◌||◌, List, [], Option, None, Some, Contains}
use Rattle.std.specs.List.{list_any}
use Rattle.resolvo_pool_core.specs.declared.id.ConditionId.{ConditionId}
use Rattle.resolvo_pool_core.specs.declared.id.VersionSetId.{VersionSetId}
use Rattle.resolvo_pool_core.specs.declared.id.VersionSetUnionId.{VersionSetUnionId}
use Rattle.resolvo_pool_core.specs.declared.condition.Condition.{Condition}
use Rattle.resolvo_pool_core.specs.declared.condition.Condition.TheVariants.{Binary, Requirement}
use Rattle.resolvo_pool_core.specs.declared.condition.LogicalOperator.TheVariants.{And, Or}
use Rattle.resolvo_pool_core.specs.declared.requirement.ConditionalRequirement.{ConditionalRequirement}
use Rattle.resolvo_pool_core.specs.declared.requirement.Requirement.{Requirement as Alternatives}
use Rattle.resolvo_pool_core.specs.Provider.{Listing, Needs, known, unknown, listed, listing_or_empty, OperandsBelow, AreOf}
use Rattle.resolvo_pool_core.specs.Text.{alternatives_of}

-- a provider's packages: its ghost members, in one record
pub record Packages (N S : Type 0) : Type 0 where
  pub package_of : S → N
  pub set_package : VersionSetId → N
  pub members_of : VersionSetUnionId → List VersionSetId
  pub condition_of : ConditionId → Condition
  pub candidates_of : N → Option (Listing S)
  pub matches : VersionSetId → S → Bool
  pub dependencies_of : S → Needs

-- the laws of a provider: a condition's operands have smaller ids, and the candidates of a package, also the locked and the excluded ones, have its name
pub record IsLawful {N S : Type 0} (p : Packages N S) : Type 0 where
  pub below : (c : ConditionId) → OperandsBelow (p.condition_of c) c
  pub named : (n : N) → AreOf p.package_of n (p.candidates_of n)

-- the provider marks the package `many`: its candidates may be chosen side by side
abbrev pub is_many : {N S : Type 0} → Packages N S → N → Bool
is_many p n = (listing_or_empty (p.candidates_of n)).many

-- the rules of a problem's root
pub record Rules : Type 0 where
  pub requirements : List ConditionalRequirement
  pub constraints : List VersionSetId

-- the rules of a solvable's dependencies; unknown dependencies have none
abbrev pub rules_of : Needs → Rules
rules_of (known requirements constraints) = record { requirements = requirements; constraints = constraints }
rules_of (unknown why) = record { requirements = []; constraints = [] }

abbrev pub is_unknown : Needs → Bool
is_unknown (known requirements constraints) = false
is_unknown (unknown why) = true

-- the truth of a condition, by that of its operands
abbrev pub truth_of : (VersionSetId → Bool) → (ConditionId → Bool) → Condition → Bool
truth_of met below (Requirement v) = met v
truth_of met below (Binary And a b) = below a && below b
truth_of met below (Binary Or a b) = below a || below b

-- a lock on another solvable keeps this one out
abbrev pub locks_out : {S : Type 0} → (S → S → Bool) → Option S → S → Bool
locks_out same None s = false
locks_out same (Some l) s = not (same l s)

-- `same` compares two solvables; sets are lists; a parent is a solvable, or None for the root
module _ {N S : Type 0} (same : S → S → Bool) (p : Packages N S) where
  abbrev pub is_in : List S → S → Bool
  is_in xs s = list_any (λ x. same x s) xs

  abbrev pub listing_for : S → Listing S
  listing_for s = listing_or_empty (p.candidates_of (p.package_of s))

  -- the solvable is a candidate of the version set's package that matches it
  abbrev pub is_match : VersionSetId → S → Bool
  is_match v s = is_in (listed (p.candidates_of (p.set_package v))) s && p.matches v s

  -- the solvable is a candidate of the version set's package that doesn't match it
  abbrev pub is_outside : VersionSetId → S → Bool
  is_outside v s = is_in (listed (p.candidates_of (p.set_package v))) s && not (p.matches v s)

  -- the solvable matches an alternative of the requirement
  abbrev pub meets : Alternatives → S → Bool
  meets r s = list_any (λ v. is_match v s) (alternatives_of p.members_of r)

  -- some member of the set matches the version set
  abbrev pub is_met : List S → VersionSetId → Bool
  is_met chosen v = list_any (is_match v) chosen

  -- the condition holds in the set, to depth n; operands have smaller ids, so its id and one are
  -- enough
  abbrev pub holds_within : ℕ → List S → ConditionId → Bool
  holds_within zero chosen c = false
  holds_within (suc n) chosen c = truth_of (is_met chosen) (holds_within n chosen) (p.condition_of c)

  abbrev pub holds : List S → ConditionId → Bool
  holds chosen c = holds_within (suc c.0) chosen c

  -- the requirement has no condition, or one that holds in the set
  abbrev pub binds_under : List S → Option ConditionId → Bool
  binds_under chosen None = true
  binds_under chosen (Some c) = holds chosen c

  abbrev pub binds : List S → ConditionalRequirement → Bool
  binds chosen need = binds_under chosen need.condition

  -- a lock or an exclusion of its package keeps the solvable out
  abbrev pub is_forbidden : S → Bool
  is_forbidden s = locks_out same (listing_for s).locked s || list_any (λ e. same e.0 s) (listing_for s).excluded

  -- the set holds candidates, at most one of each package that isn't marked `many`
  pub record IsSingle (chosen : List S) : Type 0 where
    pub listed : (s : S) → is_in chosen s ≡ true → is_in (listing_for s).candidates s ≡ true
    pub one : (s t : S) → is_in chosen s ≡ true → is_in chosen t ≡ true → p.package_of s ≡ p.package_of t → is_many p (p.package_of s) ≡ false → s ≡ t

  module _ (root : Rules) where
    -- the rules of the root, or of a solvable
    abbrev pub rules_for : Option S → Rules
    rules_for None = root
    rules_for (Some s) = rules_of (p.dependencies_of s)

    -- the root is a member of each set
    abbrev pub is_member : List S → Option S → Bool
    is_member chosen None = true
    is_member chosen (Some s) = is_in chosen s

    -- each requirement of the root or a member that binds is met, and each constraint kept
    pub record Obeys (chosen : List S) : Type 0 where
      pub requirements_met : (parent : Option S) (need : ConditionalRequirement) → is_member chosen parent ≡ true → Contains (rules_for parent).requirements need → binds chosen need ≡ true → (s : S) × (is_in chosen s ≡ true) × (meets need.requirement s ≡ true)
      pub constraints_kept : (parent : Option S) (v : VersionSetId) (s : S) → is_member chosen parent ≡ true → Contains (rules_for parent).constraints v → is_in chosen s ≡ true → is_outside v s ≡ false

    -- the set keeps all rules
    pub record IsRuleKeeping (chosen : List S) : Type 0 where
      pub single : IsSingle chosen
      pub obeys : Obeys chosen
      pub allowed : (s : S) → is_in chosen s ≡ true → is_forbidden s ≡ false
      pub known : (s : S) → is_in chosen s ≡ true → is_unknown (p.dependencies_of s) ≡ false

    -- the package is named by a constraint of the root or a member, or by a requirement of these that binds
    pub record IsNamedByConstraint (chosen : List S) (n : N) : Type 0 where
      pub parent : Option S
      pub version_set : VersionSetId
      pub member : is_member chosen parent ≡ true
      pub is_rule : Contains (rules_for parent).constraints version_set
      pub names : p.set_package version_set ≡ n

    pub record IsNamedByRequirement (chosen : List S) (n : N) : Type 0 where
      pub parent : Option S
      pub need : ConditionalRequirement
      pub version_set : VersionSetId
      pub member : is_member chosen parent ≡ true
      pub is_rule : Contains (rules_for parent).requirements need
      pub binding : binds chosen need ≡ true
      pub alternative : Contains (alternatives_of p.members_of need.requirement) version_set
      pub names : p.set_package version_set ≡ n

    abbrev pub IsNamed : List S → N → Type 0
    IsNamed chosen n = IsNamedByConstraint chosen n ⊎ IsNamedByRequirement chosen n

    -- the set keeps all rules, except that an accepted soft requirement may be locked out or
    -- excluded where its package isn't named
    pub record IsExemptKeeping (softs chosen : List S) : Type 0 where
      pub single : IsSingle chosen
      pub obeys : Obeys chosen
      pub exempt : (s : S) → is_in chosen s ≡ true → is_forbidden s ≡ true → (is_in softs s ≡ true) × (IsNamed chosen (p.package_of s) → ⊥)
      pub known : (s : S) → is_in chosen s ≡ true → is_unknown (p.dependencies_of s) ≡ false

    -- the part holds the chosen soft requirements, and each chosen match of a requirement of the
    -- root or a member whose condition holds in the part
    pub record IsClosed (softs chosen part : List S) : Type 0 where
      pub inside : (s : S) → is_in part s ≡ true → is_in chosen s ≡ true
      pub wished : (s : S) → is_in softs s ≡ true → is_in chosen s ≡ true → is_in part s ≡ true
      pub matches : (parent : Option S) (need : ConditionalRequirement) (s : S) → is_member part parent ≡ true → Contains (rules_for parent).requirements need → binds part need ≡ true → meets need.requirement s ≡ true → is_in chosen s ≡ true → is_in part s ≡ true

    -- the solvable is in the least such part
    abbrev pub IsReached : List S → List S → S → Type 0
    IsReached softs chosen s = (part : List S) → IsClosed softs chosen part → is_in part s ≡ true
