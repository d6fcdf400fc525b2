-- The begin of a soft requirement's turn, and the record of soft requirements.
use Rattle.std.specs.Prelude.{◌++◌, ◌∷◌, [], List, Bool, ◌≡◌, ◌+◌, true, false, Contains}
use Rattle.resolvo_pool_core.specs.declared.id.VariableId.{VariableId}
use Rattle.resolvo_pool_core.specs.RuleKeeping.{Packages, Rules, IsLawful, is_many}
use Rattle.resolvo_store_core.specs.Clauses.{yes}
use Rattle.resolvo_store_core.specs.Signed.{has}
use Rattle.resolvo_store_core.specs.declared.lists.Candidate.{Candidate}
use Rattle.resolvo_sat.specs.Entries.{made_true, top_level}
use Rattle.resolvo_sat.specs.State.{history}
use Rattle.resolvo_packages.specs.declared.package_source.Offered.{Offered}
use Rattle.resolvo_state.specs.declared.atom.ProofAtom.TheVariants.{Solvable}
use Rattle.resolvo_state.specs.Atoms.{Represents}
use Rattle.resolvo_state.specs.SolverState.{Grows, SameTrail}
use Rattle.resolvo_state.specs.Registered.{IsTracked}
use Rattle.resolvo_encoder.specs.declared.encoder.Encoder.{Encoder}
use Rattle.resolvo_encoder.specs.Encoded.{IsEncoding, StaysEncoding}
use Rattle.resolvo_encoder.specs.Steps.{IsBuilt, IsListed, Enrols}

-- the encoding with a turn's first level above its trail
abbrev pub turn_of : {N S : Type 0} → Encoder N S → Encoder N S
turn_of e = record e { coding = record e.coding { search = record e.coding.search { base_level = top_level (history e.coding.search) + 1 } } }

-- the variable is a soft requirement's
pub record IsSoft {N S : Type 0} (e : Encoder N S) (v : VariableId) : Type 0 where
  pub solvable : S
  pub present : Represents e.coding.atoms.keys v (Solvable solvable)
  pub wished : Contains e.recorded.softs.items solvable

-- The soft requirement is registered, with this variable, and no other solvable. It has an
-- at-least-one clause if its package is recorded.
pub record RegistersSoft {N S : Type 0} (same : S → S → Bool) (one : Offered N S) (v : VariableId) (old new : Encoder N S) : Type 0 where
  pub candidate : Candidate N
  pub enrols : Enrols same (one ∷ []) (candidate ∷ []) old new
  pub present : Represents new.coding.atoms.keys v (Solvable one.solvable)
  pub tracked : IsTracked new.registry one.name v

-- The soft requirement is registered, with this variable, and recorded behind the others. The mark
-- of its package is known.
pub record RecordsSoft {N S : Type 0} (same : S → S → Bool) (one : Offered N S) (many : Bool) (v : VariableId) (old new : Encoder N S) : Type 0 where
  pub built : IsBuilt new
  pub present : Represents new.coding.atoms.keys v (Solvable one.solvable)
  pub softs : new.recorded.softs.items ≡ old.recorded.softs.items ++ one.solvable ∷ []
  pub grows : Grows old.coding new.coding
  pub trail : SameTrail old.coding new.coding
  pub lists : new.lists ≡ old.lists
  pub parents : new.parents ≡ old.parents
  pub encoded : new.encoded ≡ old.encoded
  pub deferred : new.deferred ≡ old.deferred
  pub fired : new.fired ≡ old.fired
  pub encoding : (p : Packages N S) (root : Rules) → IsLawful p → IsEncoding same p root old
      → IsListed same p one → many ≡ is_many p one.name → IsEncoding same p root new

-- the solvable is true on the trail
abbrev pub IsTrue : {N S : Type 0} → Encoder N S → S → Type 0
IsTrue e s = (u : VariableId) × Represents e.coding.atoms.keys u (Solvable s)
    × (has (made_true (history e.coding.search)) (yes u) ≡ true)

-- The soft requirement, which is true, is recorded behind the others, and nothing else changed.
pub record RecordsChosen {N S : Type 0} (same : S → S → Bool) (soft : S) (old new : Encoder N S) : Type 0 where
  pub built : IsBuilt new
  pub softs : new.recorded.softs.items ≡ old.recorded.softs.items ++ soft ∷ []
  pub rest : new ≡ record old { recorded = record old.recorded { softs = new.recorded.softs } }
  pub encoding : StaysEncoding same old new

-- there is a last soft requirement, and it isn't chosen
abbrev pub IsUntaken : {N S : Type 0} → Encoder N S → Type 0
IsUntaken {N} {S} e = (prefix : List S) × (s : S) × (e.recorded.softs.items ≡ prefix ++ s ∷ [])
    × ((v : VariableId) → Represents e.coding.atoms.keys v (Solvable s)
    → has (made_true (history e.coding.search)) (yes v) ≡ false)

-- The last soft requirement was removed, and nothing else changed.
pub record TakesBack {N S : Type 0} (same : S → S → Bool) (old new : Encoder N S) : Type 0 where
  pub built : IsBuilt new
  pub softs : (prefix : List S) (s : S) → old.recorded.softs.items ≡ prefix ++ s ∷ []
      → new.recorded.softs.items ≡ prefix
  pub rest : new ≡ record old { recorded = record old.recorded { softs = new.recorded.softs } }
  pub encoding : StaysEncoding same old new
