-- What a call adds to an encoding, for whatever packages and root: it stays one, and has these
-- rules.
use Rattle.std.specs.Prelude.{◌≡◌, Bool, true, List, [], Option, Contains}
use Rattle.resolvo_pool_core.specs.declared.id.VersionSetId.{VersionSetId}
use Rattle.resolvo_pool_core.specs.declared.requirement.ConditionalRequirement.{ConditionalRequirement}
use Rattle.resolvo_pool_core.specs.declared.requirement.Requirement.{Requirement}
use Rattle.resolvo_pool_core.specs.RuleKeeping.{Packages, Rules, IsLawful, rules_for, is_outside}
use Rattle.resolvo_store_core.specs.declared.conditions.DeferredConjunct.{DeferredConjunct}
use Rattle.resolvo_store_core.specs.Lists.{has_candidates}
use Rattle.resolvo_packages.specs.declared.package_source.ForbiddenSolvable.{ForbiddenSolvable}
use Rattle.resolvo_packages.specs.declared.package_source.Offered.{Offered}
use Rattle.resolvo_packages.specs.Forbidden.{AreForbidden}
use Rattle.resolvo_packages.specs.PackageSource.{AreOffered, AreOutside}
use Rattle.resolvo_sat.specs.RuleClauses.{Rule, IsRule, IsForbiddenIn, IsForbidden, cases_for, AreMatched}
use Rattle.resolvo_sat.specs.SearchEnd.{IsNeedEncoded}
use Rattle.resolvo_encoder.specs.declared.conditions.ConditionSet.{ConditionSet}
use Rattle.resolvo_encoder.specs.declared.encoder.Encoder.{Encoder}
use Rattle.resolvo_encoder.specs.Cases.{case_of, sets_case, IsDeferred, AreConjuncts, AreSets}
use Rattle.resolvo_encoder.specs.Encoded.{rules_of, IsMarkKnown, IsPrepared, IsLimitEncoded, IsEncoding}
use Rattle.resolvo_encoder.specs.Steps.{Needs}

module _ {N S : Type 0} (same : S → S → Bool) where
  -- ---- locks, exclusions and constraints

  -- the package's locks and exclusions, which forbid these, are clauses, where its mark is known
  abbrev pub Forbids : N → List (ForbiddenSolvable S) → Encoder N S → Encoder N S → Type 0
  Forbids name barred old new = (p : Packages N S) (root : Rules) → IsLawful p
      → IsEncoding same p root old
      → AreForbidden same p name barred
      → IsMarkKnown same p old name
      → IsEncoding same p root new
      × ((s : S) → IsForbiddenIn same p name s → IsForbidden (rules_of new) s)

  -- the parent's constraint is encoded, where these candidates are outside it
  abbrev pub Limits : Option S → VersionSetId → List (Offered N S) → Encoder N S → Encoder N S → Type 0
  Limits parent version_set outside old new = (p : Packages N S) (root : Rules) → IsLawful p
      → IsEncoding same p root old
      → AreOutside same p version_set outside
      → Contains (rules_for same p root parent).constraints version_set
      → IsEncoding same p root new × IsLimitEncoded same p (rules_of new) parent version_set

  -- the same, where clauses encode which candidates are outside it
  abbrev pub LimitsOutside : Option S → VersionSetId → Encoder N S → Encoder N S → Type 0
  LimitsOutside parent version_set old new = (p : Packages N S) (root : Rules) → IsLawful p
      → IsEncoding same p root old
      → Contains old.recorded.version_sets.keys version_set
      → Contains (rules_for same p root parent).constraints version_set
      → IsEncoding same p root new × IsLimitEncoded same p (rules_of new) parent version_set

  -- clauses encode which candidates are outside a parent's constraint: these
  abbrev pub LeavesOut : VersionSetId → List (Offered N S) → Encoder N S → Encoder N S → Type 0
  LeavesOut version_set outside old new = (p : Packages N S) (root : Rules) → IsLawful p
      → IsEncoding same p root old
      → AreOutside same p version_set outside
      → (parent : Option S) → Contains (rules_for same p root parent).constraints version_set
      → IsEncoding same p root new
      × ((s : S) → is_outside same p version_set s ≡ true
      → rules_of new (Rule.is_out version_set s))

  -- ---- requirements without a condition

  -- the parent's requirement is encoded over the offered candidates, where its packages are
  -- prepared
  abbrev pub RequiresOffered : Option S → ConditionalRequirement → List (Offered N S) → Encoder N S → Encoder N S → Type 0
  RequiresOffered parent need offered old new = (p : Packages N S) (root : Rules) → IsLawful p
      → IsEncoding same p root old
      → AreOffered same p need.requirement offered
      → IsPrepared same p old need.requirement
      → Needs same p root parent need
      → IsEncoding same p root new × IsNeedEncoded same p (rules_of new) parent need []

  -- the parent's requirement is encoded, where it has its candidates
  abbrev pub RequiresAgain : Option S → ConditionalRequirement → Encoder N S → Encoder N S → Type 0
  RequiresAgain parent need old new = (p : Packages N S) (root : Rules) → IsLawful p
      → IsEncoding same p root old
      → has_candidates old.lists need.requirement ≡ true
      → Needs same p root parent need
      → IsEncoding same p root new × IsNeedEncoded same p (rules_of new) parent need []

  -- the clause of the requirement's gate is there, where it has its candidates
  abbrev pub SharesGate : Requirement → Encoder N S → Encoder N S → Type 0
  SharesGate requirement old new = (p : Packages N S) (root : Rules) → IsLawful p
      → IsEncoding same p root old
      → has_candidates old.lists requirement ≡ true
      → IsRule same p root (Rule.shared requirement)
      → IsEncoding same p root new × rules_of new (Rule.shared requirement)

  -- ---- cases of conditions

  -- the case of these version sets, each with the candidates that match it, is deferred
  abbrev pub DefersConjuncts : Option S → ConditionalRequirement → List (DeferredConjunct S) → Encoder N S → Encoder N S → Type 0
  DefersConjuncts parent need conjuncts old new = (p : Packages N S) (root : Rules)
      → IsEncoding same p root old
      → AreConjuncts same p conjuncts
      → Contains (rules_for same p root parent).requirements need
      → Contains (cases_for same p need) (case_of conjuncts)
      → IsEncoding same p root new × IsDeferred new parent need (case_of conjuncts)

  -- the case of these version sets, which have matches, is encoded over the offered candidates
  abbrev pub RequiresSets : Option S → ConditionalRequirement → List (ConditionSet N S) → List (Offered N S) → Encoder N S → Encoder N S → Type 0
  RequiresSets parent need sets offered old new = (p : Packages N S) (root : Rules) → IsLawful p
      → IsEncoding same p root old
      → AreSets same p sets
      → AreOffered same p need.requirement offered
      → IsPrepared same p old need.requirement
      → Contains (rules_for same p root parent).requirements need
      → Contains (cases_for same p need) (sets_case sets)
      → AreMatched same p (sets_case sets)
      → IsEncoding same p root new
      × IsNeedEncoded same p (rules_of new) parent need (sets_case sets)
