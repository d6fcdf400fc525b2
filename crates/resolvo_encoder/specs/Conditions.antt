-- Which cases are deferred, which are due, and which are encoded.
use Rattle.std.specs.Prelude.{◌≡◌, ℕ, suc, ◌-◌, ◌<◌, ◌⊎◌, Bool, true, false, List, length, slice_get, Option, Some, Contains}
use Rattle.resolvo_pool_core.specs.declared.id.VariableId.{VariableId}
use Rattle.resolvo_pool_core.specs.RuleKeeping.{Packages, Rules, IsLawful}
use Rattle.resolvo_store_core.specs.declared.conditions.DeferredConjunct.{DeferredConjunct}
use Rattle.resolvo_store_core.specs.Deferred.{candidates_of}
use Rattle.resolvo_store_core.specs.AtMostOne.{IsPrefixOf}
use Rattle.resolvo_store_core.specs.Clauses.{yes}
use Rattle.resolvo_store_core.specs.Signed.{has}
use Rattle.resolvo_sat.specs.Entries.{made_true}
use Rattle.resolvo_sat.specs.State.{history}
use Rattle.resolvo_sat.specs.RuleClauses.{case_holds}
use Rattle.resolvo_state.specs.declared.atom.ProofAtom.TheVariants.{Solvable}
use Rattle.resolvo_state.specs.Atoms.{Represents}
use Rattle.resolvo_state.specs.Chosen.{AreChosen}
pub use Rattle.resolvo_encoder.specs.Cases.{case_of, sets_case, IsDeferred, IsMatching, AreConjuncts, IsSet, AreSets, IsCaseOf}
pub use Rattle.resolvo_encoder.specs.Encoded.{IsCaseEncoded}
use Rattle.resolvo_encoder.specs.Encoded.{IsEncoding}
use Rattle.resolvo_packages.specs.PackageSource.{offered_solvables}
use Rattle.resolvo_encoder.specs.declared.conditions.ConditionSet.{ConditionSet}
use Rattle.resolvo_encoder.specs.declared.encoder.Deferred.{Deferred}
use Rattle.resolvo_encoder.specs.declared.encoder.Encoder.{Encoder}

module _ {N S : Type 0} where
  -- cases were added behind the others, or none
  pub record Defers (old new : Encoder N S) : Type 0 where
    pub prefix : IsPrefixOf old.deferred.items new.deferred.items
    pub rest : new ≡ record old { deferred = new.deferred }

  -- the case at the place was encoded
  pub record Fires (index : ℕ) (old new : Encoder N S) : Type 0 where
    pub fired : Contains new.fired.keys index
    pub prefix : IsPrefixOf old.fired.keys new.fired.keys
    pub fresh : (Contains old.fired.keys index → ⊥)
        → length new.fired.keys ≡ suc (length old.fired.keys)
    pub small : length new.fired.keys < 18446744073709551616
    pub rest : new ≡ record old { fired = new.fired }

  -- the number of deferred cases that haven't fired
  abbrev pub waiting_count : Encoder N S → ℕ
  waiting_count e = length e.deferred.items - length e.fired.keys

  -- the parent is a solvable outside one of these version sets, whose package isn't marked `many`
  abbrev pub IsKeptOut : List (ConditionSet N S) → Option S → Type 0
  IsKeptOut sets parent = (s : S) × (c : ConditionSet N S) × (parent ≡ Some s) × Contains sets c
      × (c.many ≡ false) × Contains (offered_solvables c.outside.items) s

  -- the trail makes the solvable's variable true
  abbrev pub IsTrueNow : Encoder N S → S → Type 0
  IsTrueNow e s = (v : VariableId) × Represents e.coding.atoms.keys v (Solvable s)
      × (has (made_true (history e.coding.search)) (yes v) ≡ true)

  -- one of these solvables is chosen
  abbrev pub IsOneChosen : Encoder N S → List S → Type 0
  IsOneChosen e list = (s : S) × Contains list s × IsTrueNow e s

  -- each version set of the case at the place has a chosen match
  pub record IsMetNow (e : Encoder N S) (index : ℕ) : Type 0 where
    pub deferred : Deferred S
    pub at : slice_get e.deferred.items index ≡ Some deferred
    pub chosen : (c : DeferredConjunct S) → Contains deferred.conjuncts.items c
        → IsOneChosen e (candidates_of c)

  module _ (same : S → S → Bool) (e : Encoder N S) where
    -- the case at the place is encoded, or it doesn't hold in the chosen solvables
    abbrev pub IsSpent : ℕ → Type 0
    IsSpent index = Contains e.fired.keys index
        ⊎ ((p : Packages N S) (root : Rules) → IsLawful p → IsEncoding same p root e
        → (d : Deferred S) → slice_get e.deferred.items index ≡ Some d
        → (members : List S)
        → AreChosen e.coding.atoms.keys (made_true (history e.coding.search)) members
        → case_holds same p members (case_of d.conjuncts.items) ≡ false)

    -- no deferred case holds in the chosen solvables
    abbrev pub AreSpent : Type 0
    AreSpent = (i : ℕ) → i < length e.deferred.items → IsSpent i
