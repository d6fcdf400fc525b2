-- The trail before a turn, the part of it that the turn keeps, and the reasons of a refused soft
-- requirement.
use Rattle.std.specs.Prelude.{◌≡◌, ℕ, ◌+◌, ◌<◌, ◌≤◌, ◌⊎◌, nat_lt, cond, true, false, List, [], ◌∷◌, length, Option, Some, None}
use Rattle.resolvo_pool_core.specs.declared.id.ClauseId.{ClauseId}
use Rattle.resolvo_pool_core.specs.declared.id.VariableId.{VariableId}
use Rattle.resolvo_store_core.specs.Clauses.{yes, no, root as root_variable}
use Rattle.resolvo_store_core.specs.Signed.{Signed, has}
use Rattle.resolvo_store_core.specs.declared.decision.Entry.{Entry}
use Rattle.resolvo_sat.specs.declared.analyze.FinalConflict.{FinalConflict}
use Rattle.resolvo_sat.specs.PropagateAndLearn.{KeepsUpTo}
use Rattle.resolvo_sat.specs.Analysis.{AreFromClauses, IsReason}
use Rattle.resolvo_sat.specs.Entries.{made_true, top_level, EndsWith}
use Rattle.resolvo_sat.specs.State.{history, clauses_of, IsDerived}
use Rattle.resolvo_sat.specs.Steps.{choice_entry}
use Rattle.resolvo_state.specs.declared.atom.ProofAtom.TheVariants.{Solvable}
use Rattle.resolvo_state.specs.Atoms.{Represents}
use Rattle.resolvo_encoder.specs.declared.encoder.Encoder.{Encoder}
use Rattle.resolvo_encoder.specs.SoftRequirement.{IsSoft}

-- the part of a trail, newest first, that is below a level
abbrev pub below : ℕ → List Entry → List Entry
below level [] = []
below level (e ∷ older) = cond (nat_lt e.level level) (e ∷ older) (below level older)

-- the trail before the turn
abbrev pub base_of : {N S : Type 0} → Encoder N S → List Entry
base_of e = below e.coding.search.base_level (history e.coding.search)

-- the soft requirement's decision is the first entry of its turn
abbrev pub IsFirst : {N S : Type 0} → Encoder N S → VariableId → Type 0
IsFirst e v = (c : ClauseId)
    × EndsWith (choice_entry v c (base_of e) ∷ base_of e) (history e.coding.search)

-- The turn is the soft requirement's, which wasn't true before. Where it is true, its decision is
-- the turn's first entry.
pub record IsOpen {N S : Type 0} (e : Encoder N S) (v : VariableId) : Type 0 where
  pub soft : IsSoft e v
  pub later : 2 ≤ e.coding.search.base_level
  pub begun : top_level (base_of e) + 1 ≡ e.coding.search.base_level
  pub before : has (made_true (base_of e)) (yes v) ≡ false
  pub first : has (made_true (history e.coding.search)) (yes v) ≡ true → IsFirst e v

-- the turn is the root's, or this soft requirement's
abbrev pub HasTurn : {N S : Type 0} → Option VariableId → Encoder N S → Type 0
HasTurn None e = e.coding.search.base_level ≡ 1
HasTurn (Some v) e = IsOpen e v

-- the turn and the trail before it are unchanged
abbrev pub KeepsTurn : {N S : Type 0} → Option VariableId → Encoder N S → Encoder N S → Type 0
KeepsTurn None old new = HasTurn None old → HasTurn None new
KeepsTurn (Some v) old new = IsOpen old v → IsOpen new v × (base_of new ≡ base_of old)

-- the same for any turn
abbrev pub KeepsTurns : {N S : Type 0} → Encoder N S → Encoder N S → Type 0
KeepsTurns old new = (soft : Option VariableId) → KeepsTurn soft old new

-- the trail up to the turn's first level is kept
abbrev pub KeepsFirst : {N S : Type 0} → Encoder N S → Encoder N S → Type 0
KeepsFirst old new = KeepsUpTo old.coding.search.base_level old.coding.search new.coding.search

-- the solvable was true before the turn
abbrev pub IsTaken : {N S : Type 0} → Encoder N S → S → Type 0
IsTaken e s = (u : VariableId) × Represents e.coding.atoms.keys u (Solvable s)
    × (has (made_true (base_of e)) (yes u) ≡ true)

-- the literal denies such a solvable
abbrev pub DeniesEarlier : {N S : Type 0} → Encoder N S → Signed → Type 0
DeniesEarlier {N} {S} e l = (s : S) × (u : VariableId) × (l ≡ no u)
    × Represents e.coding.atoms.keys u (Solvable s) × (has (made_true (base_of e)) (yes u) ≡ true)

-- each literal denies the root, the soft requirement, or a solvable that was true before its turn
abbrev pub IsBlame : {N S : Type 0} → Encoder N S → VariableId → List Signed → Type 0
IsBlame e v literals = (l : Signed) → has literals l ≡ true
    → (l ≡ no root_variable) ⊎ ((l ≡ no v) ⊎ DeniesEarlier e l)

-- The clause follows from its causes, has only their literals, and explains why the soft
-- requirement can't be chosen.
pub record IsBlamed {N S : Type 0} (e : Encoder N S) (v : VariableId) (literals : List Signed) (causes : List ClauseId) : Type 0 where
  pub derived : IsDerived (clauses_of e.coding.search) literals causes
  pub caused : 0 < length causes
  pub from : AreFromClauses e.coding.search literals
  pub blame : IsBlame e v literals

-- the soft requirement is chosen; or it is false by the trail before its turn, for this reason
abbrev pub IsTried : {N S : Type 0} → Encoder N S → VariableId → Option FinalConflict → Type 0
IsTried e v None = has (made_true (history e.coding.search)) (yes v) ≡ true
IsTried e v (Some r) = IsReason e.coding.search (no v) r.literals.items r.causes.items
    × (top_level (history e.coding.search) < e.coding.search.base_level)
