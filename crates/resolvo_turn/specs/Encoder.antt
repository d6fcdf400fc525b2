-- The encoding of parents.
use Rattle.std.specs.Prelude.{◌≡◌, ◌≤◌, Bool, false, List, length, Option, Some, Contains}
use Rattle.resolvo_pool_core.specs.declared.id.VersionSetId.{VersionSetId}
use Rattle.resolvo_pool_core.specs.declared.requirement.ConditionalRequirement.{ConditionalRequirement}
use Rattle.resolvo_pool_core.specs.declared.requirement.Requirement.{Requirement}
use Rattle.resolvo_pool_core.specs.RuleKeeping.{Packages, Rules, rules_for, is_unknown}
use Rattle.resolvo_store_core.specs.AtMostOne.{IsPrefixOf}
use Rattle.resolvo_packages.specs.declared.package_source.PackageSource as source
use Rattle.resolvo_state.specs.Registered.{IsMany}
use Rattle.resolvo_state.specs.SolverState.{Grows}
use Rattle.resolvo_encoder.specs.declared.encoder.Encoder.{Encoder}
use Rattle.resolvo_encoder.specs.Base.{KeepsTurns}
use Rattle.resolvo_encoder.specs.Conditions.{IsDeferred}
use Rattle.resolvo_encoder.specs.Encoded.{AreOrdered, IsCaseEncoded, IsEncoding}
use Rattle.resolvo_sat.specs.RuleClauses.{cases_for}

-- the root has these requirements and constraints
abbrev pub IsRoot : List ConditionalRequirement → List VersionSetId → Rules → Type 0
IsRoot requirements constraints root = (root.requirements ≡ requirements)
    × (root.constraints ≡ constraints)

-- the parent, whose dependencies are known, has these requirements and constraints
pub record AreRulesOf {N S : Type 0} (same : S → S → Bool) (p : Packages N S) (root : Rules) (parent : Option S) (needs : List ConditionalRequirement) (limits : List VersionSetId) : Type 0 where
  pub requirements : (rules_for same p root parent).requirements ≡ needs
  pub constraints : (rules_for same p root parent).constraints ≡ limits
  pub known : (s : S) → parent ≡ Some s → is_unknown (p.dependencies_of s) ≡ false

-- the encoding is one of the packages, and the candidates of each requirement are in an order in
-- which they may be tried
pub record IsInOrder {N S : Type 0} (same : S → S → Bool) (p : Packages N S) (orders : Requirement → List S → Type 0) (root : Rules) (e : Encoder N S) : Type 0 where
  pub encoding : IsEncoding same p root e
  pub ordered : AreOrdered orders e

-- the encoding is in order, by the packages that a source with these ghost members describes
abbrev pub IsInOrderBy : {A N S C : Type 0} → (S → S → Bool) → source.Ghosts A N S C → A → Rules → Encoder N S → Type 0
IsInOrderBy same g a root e = IsInOrder same (g.packages a) (g.orders a) root e

-- an encoding in order stays one, whatever the root
abbrev pub StaysInOrder : {A N S C : Type 0} → (S → S → Bool) → source.Ghosts A N S C → A → Encoder N S → Encoder N S → Type 0
StaysInOrder same g a old new = (root : Rules) → IsInOrderBy same g a root old
    → IsInOrderBy same g a root new

-- each of these cases of the parent's requirement is deferred, or was
abbrev pub AreDeferred : {N S : Type 0} → Encoder N S → Option S → ConditionalRequirement → List (List VersionSetId) → Type 0
AreDeferred {N} {S} e parent need cases = (case : List VersionSetId) → Contains cases case
    → IsDeferred e parent need case

-- each case of the parent's requirement is a clause, or deferred
abbrev pub IsConditionalEncoded : {N S : Type 0} → (S → S → Bool) → Packages N S → Encoder N S → Option S → ConditionalRequirement → Type 0
IsConditionalEncoded {N} {S} same p e parent need = (case : List VersionSetId)
    → Contains (cases_for same p need) case → IsCaseEncoded same p e parent need case

-- marked packages stay marked
abbrev pub KeepsMarks : {N S : Type 0} → Encoder N S → Encoder N S → Type 0
KeepsMarks {N} {S} old new = (name : N) → IsMany old.registry name → IsMany new.registry name

-- Clauses, their kinds, parents, and deferred or fired cases may be added at the end. No more
-- parents are encoded, no soft requirement is added, and the turn keeps the trail before it.
pub record AddsNeeds {N S : Type 0} (old new : Encoder N S) : Type 0 where
  pub grows : Grows old.coding new.coding
  pub turn : KeepsTurns old new
  pub softs : new.recorded.softs.items ≡ old.recorded.softs.items
  pub parents : IsPrefixOf old.parents.keys new.parents.keys
  pub encoded : new.encoded ≡ old.encoded
  pub deferred : IsPrefixOf old.deferred.items new.deferred.items
  pub fired : IsPrefixOf old.fired.keys new.fired.keys

-- the same, and more parents may be encoded
pub record AddsParents {N S : Type 0} (old new : Encoder N S) : Type 0 where
  pub grows : Grows old.coding new.coding
  pub softs : new.recorded.softs.items ≡ old.recorded.softs.items
  pub parents : IsPrefixOf old.parents.keys new.parents.keys
  pub encoded : old.encoded ≤ new.encoded
  pub deferred : IsPrefixOf old.deferred.items new.deferred.items
  pub fired : IsPrefixOf old.fired.keys new.fired.keys

-- the same, and all parents are encoded
pub record AddsAll {N S : Type 0} (old new : Encoder N S) : Type 0 where
  pub adds : AddsParents old new
  pub all : new.encoded ≡ length new.parents.keys
