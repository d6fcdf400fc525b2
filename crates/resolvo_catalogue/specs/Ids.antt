-- The ids of packages, versions, SPECs, lists of alternatives, conditions and words, and the text of each id.
use Rattle.std.specs.Prelude.{◌≡◌, ◌≤◌, ℕ, ◌==◌, length, List, map, Option, Some, None}
use Rattle.resolvo_text.specs.Line.{Version, Spec, Cond}
use Rattle.resolvo_pool_core.specs.declared.id.DenseId.{DenseId}
use Rattle.resolvo_pool_core.specs.declared.id.SolvableTag.{SolvableTag}
use Rattle.resolvo_pool_core.specs.declared.id.StringId.{StringId}
use Rattle.resolvo_pool_core.specs.declared.id.VersionSetId.{VersionSetId}
use Rattle.resolvo_pool_core.specs.declared.id.ConditionId.{ConditionId}
use Rattle.resolvo_intern.specs.declared.pool.Solvable.{Solvable}
use Rattle.resolvo_pool_core.specs.declared.condition.Condition.{Condition}
use Rattle.resolvo_pool_core.specs.declared.requirement.Requirement.{Requirement}
use Rattle.resolvo_pool_core.specs.declared.requirement.ConditionalRequirement.{ConditionalRequirement}
use Rattle.resolvo_terms.specs.declared.terms.Numbers.{Numbers}
use Rattle.resolvo_terms.specs.Terms.{Terms, NameId, AreEach, Extends}
use Rattle.resolvo_terms.specs.Terms as terms
use Rattle.resolvo_catalogue_core.specs.Kept.{places_from}
use Rattle.resolvo_catalogue_core.specs.declared.versions.KeptVersion.{KeptVersion}

abbrev pub SolvableId : Type 0
SolvableId = DenseId SolvableTag ℕ

abbrev pub solvable_id : ℕ → SolvableId
solvable_id n = record { raw = n; tag = record {} }

-- The interned values: a value's place is the number of its id.
pub record Ids : Type 0 where
  pub names : List (List ℕ)
  pub words : List (List ℕ)
  pub solvables : List (Solvable ℕ)
  pub version_sets : List (NameId × Numbers)
  pub unions : List (List VersionSetId)
  pub conditions : List Condition

-- those without the solvables
abbrev pub terms_of : Ids → Terms
terms_of ids = record { names = ids.names; words = ids.words; version_sets = ids.version_sets; unions = ids.unions; conditions = ids.conditions }

-- the terms of a request, where it has some of its own, else the catalogue's
abbrev pub own_or : Option Terms → Terms → Terms
own_or None lent = lent
own_or (Some own) lent = own

-- ---- the text of an id

module _ (ids : Ids) where
  abbrev pub IsPackage : NameId → List ℕ → Type 0
  IsPackage n name = terms.IsPackage (terms_of ids) n name

  abbrev pub IsWord : StringId → List ℕ → Type 0
  IsWord w word = terms.IsWord (terms_of ids) w word

  -- The id is of the SPEC's package with its span.
  abbrev pub IsSpec : VersionSetId → Spec → Type 0
  IsSpec v s = terms.IsSpec (terms_of ids) v s

  -- One SPEC is an id of its own, a list of them a union.
  abbrev pub AreAlternatives : Requirement → List Spec → Type 0
  AreAlternatives r alternatives = terms.AreAlternatives (terms_of ids) r alternatives

  abbrev pub IsCondition : ConditionId → Cond → Type 0
  IsCondition c condition = terms.IsCondition (terms_of ids) c condition

  abbrev pub IsConditionOf : Option ConditionId → Option Cond → Type 0
  IsConditionOf c condition = terms.IsConditionOf (terms_of ids) c condition

  -- The requirement is that of a need with these alternatives under this condition.
  abbrev pub IsNeed : ConditionalRequirement → List Spec × Option Cond → Type 0
  IsNeed need written = terms.IsNeed (terms_of ids) need written

-- ---- more is interned

-- No earlier id has changed.
pub record Grows (old new : Ids) : Type 0 where
  pub names : Extends old.names new.names
  pub words : Extends old.words new.words
  pub solvables : Extends old.solvables new.solvables
  pub version_sets : Extends old.version_sets new.version_sets
  pub unions : Extends old.unions new.unions
  pub conditions : Extends old.conditions new.conditions

-- No earlier id has changed, and there is no other solvable.
pub record Interns (old new : Ids) : Type 0 where
  pub grows : Grows old new
  pub same : new.solvables ≡ old.solvables

-- No number is left for a value of some kind: the last one is given.
pub data LacksNumber (ids : Ids) : Type 0 where
  names : 4294967295 ≤ length ids.names → LacksNumber ids
  words : 4294967295 ≤ length ids.words → LacksNumber ids
  solvables : 4294967295 ≤ length ids.solvables → LacksNumber ids
  version_sets : 4294967295 ≤ length ids.version_sets → LacksNumber ids
  unions : 4294967295 ≤ length ids.unions → LacksNumber ids
  conditions : 4294967295 ≤ length ids.conditions → LacksNumber ids

-- No value has two ids, no union is of one version set, and the operands of a condition have smaller ids than it.
abbrev pub AreSound : Ids → Type 0
AreSound ids = terms.AreSound (terms_of ids)

-- ---- the versions

-- a version as a solvable
abbrev pub solvable_by : KeptVersion → Solvable ℕ
solvable_by v = record { version = v.number; name = v.«package» }

-- The solvable is this version.
abbrev pub IsSolvable : Ids → Solvable ℕ → Version → Type 0
IsSolvable ids s v = (s.version ≡ v.number) × IsPackage ids s.name v.name

-- The solvables are these versions, in order.
abbrev pub AreVersions : Ids → List Version → Type 0
AreVersions ids versions = AreEach (IsSolvable ids) ids.solvables versions

-- ---- the solvables of a package

-- the solvables of a package, in the order of their ids
abbrev pub solvables_of : Ids → ℕ → List SolvableId
solvables_of ids name = map solvable_id (places_from (λ x. x.name.raw == name) 0 ids.solvables)
