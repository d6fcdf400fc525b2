-- What a call that encodes does, over a source of packages with these ghost members. In each an
-- encoding in order stays one, and has more.
use Rattle.std.specs.Prelude.{◌≡◌, ℕ, Bool, List, [], slice_get, Option, Some, Contains}
use Rattle.resolvo_pool_core.specs.declared.id.VersionSetId.{VersionSetId}
use Rattle.resolvo_pool_core.specs.declared.requirement.ConditionalRequirement.{ConditionalRequirement}
use Rattle.resolvo_pool_core.specs.declared.requirement.Requirement.{Requirement}
use Rattle.resolvo_pool_core.specs.declared.requirement.Requirement.TheVariants.{Single}
use Rattle.resolvo_pool_core.specs.RuleKeeping.{Rules, rules_for}
use Rattle.resolvo_packages.specs.declared.package_source.PackageSource as source
use Rattle.resolvo_sat.specs.RuleClauses.{IsForbiddenIn, IsForbidden, cases_for, AreMatched}
use Rattle.resolvo_sat.specs.SearchEnd.{IsNeedEncoded}
use Rattle.resolvo_encoder.specs.declared.conditions.ConditionSet.{ConditionSet}
use Rattle.resolvo_encoder.specs.declared.encoder.Deferred.{Deferred}
use Rattle.resolvo_encoder.specs.declared.encoder.Encoder.{Encoder}
use Rattle.resolvo_encoder.specs.Cases.{case_of, IsDeferred, AreSets, sets_case}
use Rattle.resolvo_encoder.specs.Conditions.{IsMetNow}
use Rattle.resolvo_encoder.specs.Encoded.{IsGuarded, IsMarkKnown, IsPrepared, IsLimitEncoded, IsParentEncoded, rules_of}
use Rattle.resolvo_encoder.specs.Steps.{Needs}
use Rattle.resolvo_turn.specs.Tasks.{AreExcluded}
use Rattle.resolvo_turn.specs.Encoder.{AreRulesOf, IsInOrderBy, AreDeferred, IsConditionalEncoded}
use Rattle.resolvo_turn.specs.TurnRules.{IsRootOf}
use Rattle.resolvo_turn.specs.declared.turn_input.TurnInput.{TurnInput}

module _ {A N S C : Type 0} (same : S → S → Bool) (g : source.Ghosts A N S C) (a : A) where
  -- ---- locks, exclusions and marks

  -- those of the package, whose mark is known, are clauses
  abbrev pub ForbidsCandidates : N → Encoder N S → Encoder N S → Type 0
  ForbidsCandidates name old new = (root : Rules) → IsInOrderBy same g a root old
      → IsMarkKnown same (g.packages a) old name
      → IsInOrderBy same g a root new
      × ((s : S) → IsForbiddenIn same (g.packages a) name s → IsForbidden (rules_of new) s)

  -- those of the package are clauses, and its mark is known
  abbrev pub ForbidsPackage : N → Encoder N S → Encoder N S → Type 0
  ForbidsPackage name old new = (root : Rules) → IsInOrderBy same g a root old
      → IsInOrderBy same g a root new
      × ((s : S) → IsForbiddenIn same (g.packages a) name s → IsForbidden (rules_of new) s)
      × IsMarkKnown same (g.packages a) new name

  -- those of each of these packages are, and their marks are known
  abbrev pub ForbidsPackages : List N → Encoder N S → Encoder N S → Type 0
  ForbidsPackages names old new = (root : Rules) → IsInOrderBy same g a root old
      → IsInOrderBy same g a root new
      × ((name : N) (s : S) → Contains names name → IsForbiddenIn same (g.packages a) name s
      → IsForbidden (rules_of new) s)
      × ((name : N) → Contains names name → IsMarkKnown same (g.packages a) new name)

  -- those of the requirement's packages are: its candidates may be registered
  abbrev pub GuardsRequirement : Requirement → Encoder N S → Encoder N S → Type 0
  GuardsRequirement requirement old new = (root : Rules) → IsInOrderBy same g a root old
      → IsInOrderBy same g a root new × IsPrepared same (g.packages a) new requirement

  -- ---- requirements of a parent

  -- one without a condition, which is guarded, is a clause
  abbrev pub RequiresGuarded : Option S → ConditionalRequirement → Encoder N S → Encoder N S → Type 0
  RequiresGuarded parent need old new = (root : Rules) → IsInOrderBy same g a root old
      → IsPrepared same (g.packages a) old need.requirement
      → Needs same (g.packages a) root parent need
      → IsInOrderBy same g a root new
      × IsNeedEncoded same (g.packages a) (rules_of new) parent need []

  -- one without a condition is a clause
  abbrev pub RequiresPlain : Option S → ConditionalRequirement → Encoder N S → Encoder N S → Type 0
  RequiresPlain parent need old new = (root : Rules) → IsInOrderBy same g a root old
      → Needs same (g.packages a) root parent need
      → IsInOrderBy same g a root new
      × IsNeedEncoded same (g.packages a) (rules_of new) parent need []

  -- each case of it is a clause, or deferred
  abbrev pub RequiresOne : Option S → ConditionalRequirement → Encoder N S → Encoder N S → Type 0
  RequiresOne parent need old new = (root : Rules) → IsInOrderBy same g a root old
      → Contains (rules_for same (g.packages a) root parent).requirements need
      → IsInOrderBy same g a root new × IsConditionalEncoded same (g.packages a) new parent need

  -- each case of each of them is
  abbrev pub RequiresAll : Option S → List ConditionalRequirement → Encoder N S → Encoder N S → Type 0
  RequiresAll parent needs old new = (root : Rules) → IsInOrderBy same g a root old
      → ((need : ConditionalRequirement) → Contains needs need
      → Contains (rules_for same (g.packages a) root parent).requirements need)
      → IsInOrderBy same g a root new
      × ((need : ConditionalRequirement) → Contains needs need
      → IsConditionalEncoded same (g.packages a) new parent need)

  -- ---- constraints of a parent

  -- clauses forbid the candidates outside it
  abbrev pub LimitsOne : Option S → VersionSetId → Encoder N S → Encoder N S → Type 0
  LimitsOne parent version_set old new = (root : Rules) → IsInOrderBy same g a root old
      → Contains (rules_for same (g.packages a) root parent).constraints version_set
      → IsInOrderBy same g a root new
      × IsLimitEncoded same (g.packages a) (rules_of new) parent version_set

  -- the same, and it is guarded
  abbrev pub LimitsGuarded : Option S → VersionSetId → Encoder N S → Encoder N S → Type 0
  LimitsGuarded parent version_set old new = (root : Rules) → IsInOrderBy same g a root old
      → Contains (rules_for same (g.packages a) root parent).constraints version_set
      → IsInOrderBy same g a root new
      × IsLimitEncoded same (g.packages a) (rules_of new) parent version_set
      × IsGuarded same (g.packages a) (rules_of new) (Single version_set)

  -- the same of each of them
  abbrev pub LimitsAll : Option S → List VersionSetId → Encoder N S → Encoder N S → Type 0
  LimitsAll parent constraints old new = (root : Rules) → IsInOrderBy same g a root old
      → ((version_set : VersionSetId) → Contains constraints version_set
      → Contains (rules_for same (g.packages a) root parent).constraints version_set)
      → IsInOrderBy same g a root new
      × ((version_set : VersionSetId) → Contains constraints version_set
      → IsLimitEncoded same (g.packages a) (rules_of new) parent version_set
      × IsGuarded same (g.packages a) (rules_of new) (Single version_set))

  -- ---- all rules of a parent

  -- the parent, whose dependencies are known, has these requirements and constraints: they are
  -- clauses
  abbrev pub EncodesKnown : Option S → List ConditionalRequirement → List VersionSetId → Encoder N S → Encoder N S → Type 0
  EncodesKnown parent requirements constraints old new = (root : Rules)
      → AreRulesOf same (g.packages a) root parent requirements constraints
      → IsInOrderBy same g a root old
      → IsInOrderBy same g a root new × IsParentEncoded same (g.packages a) new root parent

  -- the solvable's rules are clauses, where clauses exclude these solvables
  abbrev pub EncodesSolvable : S → List S → Encoder N S → Encoder N S → Type 0
  EncodesSolvable s excluded old new = (root : Rules) → IsInOrderBy same g a root old
      → AreExcluded excluded old
      → IsInOrderBy same g a root new × IsParentEncoded same (g.packages a) new root (Some s)

  -- the parent's rules are clauses, where the root is the one that turns are given, and clauses
  -- exclude these solvables
  abbrev pub EncodesParent : TurnInput → Option S → List S → Encoder N S → Encoder N S → Type 0
  EncodesParent input parent excluded old new = (root : Rules) → IsRootOf input root
      → IsInOrderBy same g a root old → AreExcluded excluded old
      → IsInOrderBy same g a root new × IsParentEncoded same (g.packages a) new root parent

  -- ---- cases of a parent's requirement

  -- this one is deferred
  abbrev pub DefersCase : Option S → ConditionalRequirement → List VersionSetId → Encoder N S → Encoder N S → Type 0
  DefersCase parent need case old new = (root : Rules) → IsInOrderBy same g a root old
      → Contains (rules_for same (g.packages a) root parent).requirements need
      → Contains (cases_for same (g.packages a) need) case
      → IsInOrderBy same g a root new × IsDeferred new parent need case

  -- these are
  abbrev pub DefersCases : Option S → ConditionalRequirement → List (List VersionSetId) → Encoder N S → Encoder N S → Type 0
  DefersCases parent need cases old new = (root : Rules) → IsInOrderBy same g a root old
      → Contains (rules_for same (g.packages a) root parent).requirements need
      → ((case : List VersionSetId) → Contains cases case
      → Contains (cases_for same (g.packages a) need) case)
      → IsInOrderBy same g a root new × AreDeferred new parent need cases

  -- all are
  abbrev pub DefersNeed : Option S → ConditionalRequirement → Encoder N S → Encoder N S → Type 0
  DefersNeed parent need old new = (root : Rules) → IsInOrderBy same g a root old
      → Contains (rules_for same (g.packages a) root parent).requirements need
      → IsInOrderBy same g a root new
      × AreDeferred new parent need (cases_for same (g.packages a) need)

  -- the case of these version sets, which have matches, is a clause, where the requirement is
  -- guarded
  abbrev pub RequiresGuardedCase : Option S → ConditionalRequirement → List (ConditionSet N S) → Encoder N S → Encoder N S → Type 0
  RequiresGuardedCase parent need sets old new = (root : Rules) → IsInOrderBy same g a root old
      → IsPrepared same (g.packages a) old need.requirement
      → AreSets same (g.packages a) sets
      → Contains (rules_for same (g.packages a) root parent).requirements need
      → Contains (cases_for same (g.packages a) need) (sets_case sets)
      → AreMatched same (g.packages a) (sets_case sets)
      → IsInOrderBy same g a root new
      × IsNeedEncoded same (g.packages a) (rules_of new) parent need (sets_case sets)

  -- the same, and the requirement isn't guarded yet
  abbrev pub RequiresCase : Option S → ConditionalRequirement → List (ConditionSet N S) → Encoder N S → Encoder N S → Type 0
  RequiresCase parent need sets old new = (root : Rules) → IsInOrderBy same g a root old
      → AreSets same (g.packages a) sets
      → Contains (rules_for same (g.packages a) root parent).requirements need
      → Contains (cases_for same (g.packages a) need) (sets_case sets)
      → AreMatched same (g.packages a) (sets_case sets)
      → IsInOrderBy same g a root new
      × IsNeedEncoded same (g.packages a) (rules_of new) parent need (sets_case sets)

  -- the deferred case at the place, of which each version set has a chosen match, is a clause
  abbrev pub RequiresDeferred : ℕ → Encoder N S → Encoder N S → Type 0
  RequiresDeferred index old new = (root : Rules) → IsInOrderBy same g a root old
      → IsMetNow old index
      → IsInOrderBy same g a root new
      × ((d : Deferred S) → slice_get old.deferred.items index ≡ Some d
      → IsNeedEncoded same (g.packages a) (rules_of new) d.parent d.need (case_of d.conjuncts.items))
