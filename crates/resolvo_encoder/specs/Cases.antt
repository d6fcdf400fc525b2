-- The cases of conditions, and how they are deferred until they are encoded.
use Rattle.std.specs.Prelude.{◌≡◌, ℕ, Bool, true, false, List, map, slice_get, Option, Some, Contains}
use Rattle.std.specs.List.{AllByRecursion}
use Rattle.resolvo_pool_core.specs.declared.id.VersionSetId.{VersionSetId}
use Rattle.resolvo_pool_core.specs.declared.requirement.ConditionalRequirement.{ConditionalRequirement}
use Rattle.resolvo_pool_core.specs.declared.requirement.Requirement.TheVariants.{Single}
use Rattle.resolvo_pool_core.specs.RuleKeeping.{Packages, Rules, is_many, is_in, is_match, rules_for}
use Rattle.resolvo_store_core.specs.declared.conditions.DeferredConjunct.{DeferredConjunct}
use Rattle.resolvo_store_core.specs.Deferred.{version_set_of, candidates_of}
use Rattle.resolvo_sat.specs.RuleClauses.{cases_for}
use Rattle.resolvo_packages.specs.PackageSource.{AreOffered, AreOutside}
use Rattle.resolvo_encoder.specs.declared.encoder.Deferred.{Deferred}
use Rattle.resolvo_encoder.specs.declared.encoder.Encoder.{Encoder}
use Rattle.resolvo_encoder.specs.declared.conditions.ConditionSet.{ConditionSet}

-- the version sets of a deferred case
abbrev pub case_of : {S : Type 0} → List (DeferredConjunct S) → List VersionSetId
case_of conjuncts = map version_set_of conjuncts

-- the version sets of a case that fires
abbrev pub sets_case : {N S : Type 0} → List (ConditionSet N S) → List VersionSetId
sets_case sets = map (λ c. c.version_set) sets

-- this case of this parent's requirement is deferred
abbrev pub IsDeferred : {N S : Type 0} → Encoder N S → Option S → ConditionalRequirement → List VersionSetId → Type 0
IsDeferred {N} {S} e parent need case = (i : ℕ) × (d : Deferred S)
    × (slice_get e.deferred.items i ≡ Some d) × (d.parent ≡ parent) × (d.need ≡ need)
    × (case_of d.conjuncts.items ≡ case)

module _ {N S : Type 0} (same : S → S → Bool) (p : Packages N S) where
  -- the candidates are those that match the version set
  abbrev pub IsMatching : DeferredConjunct S → Type 0
  IsMatching c = (s : S) → is_in same p (candidates_of c) s ≡ is_match same p (version_set_of c) s

  abbrev pub AreConjuncts : List (DeferredConjunct S) → Type 0
  AreConjuncts conjuncts = AllByRecursion IsMatching conjuncts

  -- The version set with its package, and the package's candidates outside it. Where the package is
  -- marked `many`, those that match instead.
  pub record IsSet (c : ConditionSet N S) : Type 0 where
    pub named : c.name ≡ p.set_package c.version_set
    pub mark : c.many ≡ is_many p c.name
    pub outside : c.many ≡ false → AreOutside same p c.version_set c.outside.items
    pub matching : c.many ≡ true → AreOffered same p (Single c.version_set) c.matching.items

  abbrev pub AreSets : List (ConditionSet N S) → Type 0
  AreSets sets = AllByRecursion IsSet sets

  -- the deferred case is one of its parent's requirement
  pub record IsCaseOf (root : Rules) (d : Deferred S) : Type 0 where
    pub conjuncts : AreConjuncts d.conjuncts.items
    pub listed : Contains (rules_for same p root d.parent).requirements d.need
    pub case : Contains (cases_for same p d.need) (case_of d.conjuncts.items)
