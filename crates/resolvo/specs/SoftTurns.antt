-- The turn of a soft requirement.
use Rattle.std.specs.Prelude.{◌≡◌, ◌≤◌, ◌⊎◌, ◌<◌, ℕ, Bool, true, ⊤, List, [], ◌∷◌, ◌++◌, Option, Some, None, Contains, slice_get}
use Rattle.resolvo_pool_core.specs.declared.id.ClauseId.{ClauseId}
use Rattle.resolvo_pool_core.specs.declared.id.VariableId.{VariableId}
use Rattle.resolvo_pool_core.specs.declared.solver_id.SolvableIdOrRoot.TheVariants as Place
use Rattle.resolvo_pool_core.specs.Provider.{listed}
use Rattle.resolvo_pool_core.specs.RuleKeeping.{Packages, Rules, IsLawful, is_in, IsRuleKeeping}
use Rattle.resolvo_store_core.specs.AtMostOne.{IsPrefixOf}
use Rattle.resolvo_store_core.specs.Clauses.{yes, no, root as root_variable}
use Rattle.resolvo_store_core.specs.Signed.{Signed, has}
use Rattle.resolvo_sat.specs.Clauses.{SatClause}
use Rattle.resolvo_sat.specs.Analysis.{IsRefusal}
use Rattle.resolvo_sat.specs.Entries.{made_true, EndsWith}
use Rattle.resolvo_sat.specs.Known.{IsUndecided}
use Rattle.resolvo_sat.specs.State.{history}
use Rattle.resolvo_state.specs.declared.atom.ProofAtom.TheVariants.{Solvable}
use Rattle.resolvo_state.specs.Atoms.{Represents}
use Rattle.resolvo_state.specs.SolverState.{Grows}
use Rattle.resolvo_state.specs.declared.solver_state.SolverState.{SolverState}
use Rattle.resolvo_state.specs.ClauseKinds.{kind_at}
use Rattle.resolvo_state.specs.Kinds.{Learnt}
use Rattle.resolvo_sat.specs.declared.analyze.FinalConflict.{FinalConflict}
use Rattle.resolvo_encoder.specs.Base.{base_of, IsOpen}
use Rattle.resolvo_encoder.specs.Encoded.{IsEncoding}
use Rattle.resolvo_encoder.specs.SoftRequirement.{IsTrue}
use Rattle.resolvo_encoder.specs.declared.encoder.Encoder.{Encoder}
use Rattle.resolvo.specs.declared.soft_requirements.SoftOutcome.{SoftOutcome}
use Rattle.resolvo.specs.declared.soft_requirements.SoftOutcome.TheVariants.{AlreadyChosen, Chosen, Refused, Unsat}
use Rattle.resolvo.specs.Solution.{IsUnsolvable}
use Rattle.resolvo_turn.specs.Turn.{IsRefusedBy, IsRooted, IsTurn}

-- the solvable is a candidate of its package
abbrev pub IsCandidate : {N S : Type 0} → (S → S → Bool) → Packages N S → S → Type 0
IsCandidate same p s = is_in same p (listed (p.candidates_of (p.package_of s))) s ≡ true

-- each of them is one
abbrev pub AreCandidates : {N S : Type 0} → (S → S → Bool) → Packages N S → List S → Type 0
AreCandidates {N} {S} same p list = (s : S) → Contains list s → IsCandidate same p s

-- what is true on the trail is among the parents
abbrev pub AreTrueParents : {N S : Type 0} → Encoder N S → Type 0
AreTrueParents {N} {S} e = (s : S) → IsTrue e s → Contains e.parents.keys (Place.Solvable s)

-- the literal denies the root, or one of these solvables
abbrev pub DeniesOne : {N S : Type 0} → SolverState N S → (S → Type 0) → Signed → Type 0
DeniesOne {N} {S} c among l = (l ≡ no root_variable)
    ⊎ ((t : S) × (u : VariableId) × (l ≡ no u) × Represents c.atoms.keys u (Solvable t) × among t)

-- The clause of this number, which is not the root's, was learnt, and denies nothing but these
-- solvables.
pub record IsReasonOf {N S : Type 0} (c : SolverState N S) (among : S → Type 0) (number : ℕ) : Type 0 where
  pub later : 0 < number
  pub held : SatClause
  pub present : slice_get c.search.clauses number ≡ Some held
  pub learnt : kind_at c.kinds.items number ≡ Some Learnt
  pub denies : (l : Signed) → has held.literals l ≡ true → DeniesOne c among l

-- The trail is kept, its newest entries aside. Clauses and parents were added at the end, no fewer
-- are encoded, and the root is still the first parent.
pub record KeepsTrail {N S : Type 0} (old new : Encoder N S) : Type 0 where
  pub atoms : IsPrefixOf old.coding.atoms.keys new.coding.atoms.keys
  pub clauses : IsPrefixOf old.coding.search.clauses new.coding.search.clauses
  pub kinds : IsPrefixOf old.coding.kinds.items new.coding.kinds.items
  pub ends : EndsWith (history old.coding.search) (history new.coding.search)
  pub parents : IsPrefixOf old.parents.keys new.parents.keys
  pub encoded : old.encoded ≤ new.encoded
  pub rooted : IsRooted old → IsRooted new

-- A true or chosen soft requirement is recorded after the accepted ones. The turn of a chosen one
-- begins after the earlier trail. The trail and the accepted ones are unchanged after a refusal.
abbrev pub IsOutcome : {N S : Type 0} → (S → S → Bool) → S → Encoder N S → Encoder N S → SoftOutcome → Type 0
IsOutcome same s old new AlreadyChosen = (new.recorded.softs.items ≡ old.recorded.softs.items ++ s ∷ [])
    × (history new.coding.search ≡ history old.coding.search) × IsTrue new s
IsOutcome same s old new Chosen = (new.recorded.softs.items ≡ old.recorded.softs.items ++ s ∷ [])
    × (base_of new ≡ history old.coding.search)
    × ((v : VariableId) × Represents new.coding.atoms.keys v (Solvable s)
    × IsTurn same (Some v) new None)
IsOutcome same s old new (Refused clause) = (new.recorded.softs.items ≡ old.recorded.softs.items)
    × (history new.coding.search ≡ history old.coding.search) × (IsTrue new s → ⊥)
IsOutcome same s old new (Unsat r) = IsRefusal new.coding.search r.literals.items r.causes.items
    × (r.literals.items ≡ [])

-- the variable is that of the last soft requirement
abbrev pub IsLast : {N S : Type 0} → Encoder N S → VariableId → Type 0
IsLast {N} {S} e v = (prefix : List S) × (s : S) × (e.recorded.softs.items ≡ prefix ++ s ∷ [])
    × Represents e.coding.atoms.keys v (Solvable s)

-- the turn is that of the last soft requirement, and is refused
abbrev pub IsRefusable : {N S : Type 0} → Encoder N S → FinalConflict → Type 0
IsRefusable e r = (v : VariableId) × IsOpen e v × IsLast e v × IsRefusedBy (Some v) e r

-- the clause has these literals, and was learnt
pub record IsLearntAs {N S : Type 0} (c : SolverState N S) (literals : List Signed) (clause : ClauseId) : Type 0 where
  pub later : 0 < clause.0
  pub held : SatClause
  pub present : slice_get c.search.clauses clause.0 ≡ Some held
  pub learnt : kind_at c.kinds.items clause.0 ≡ Some Learnt
  pub is : held.literals ≡ literals

-- A conflict with literals is learnt, the trail is that before the turn, and the soft requirement
-- is no longer recorded. Otherwise nothing changed.
abbrev pub IsRejected : {N S : Type 0} → FinalConflict → Encoder N S → Encoder N S → SoftOutcome → Type 0
IsRejected refusal old new AlreadyChosen = ⊥
IsRejected refusal old new Chosen = ⊥
IsRejected {N} {S} refusal old new (Refused clause) = (history new.coding.search ≡ base_of old)
    × ((prefix : List S) (s : S) → old.recorded.softs.items ≡ prefix ++ s ∷ []
    → new.recorded.softs.items ≡ prefix) × IsLearntAs new.coding refusal.literals.items clause
IsRejected refusal old new (Unsat r) = (r ≡ refusal) × (r.literals.items ≡ []) × (new ≡ old)

-- a turn without a conflict chose the soft requirement, and nothing changed since; another one is
-- rejected
abbrev pub IsClosed : {N S : Type 0} → Option FinalConflict → Encoder N S → Encoder N S → SoftOutcome → Type 0
IsClosed None old new outcome = (outcome ≡ Chosen) × (new ≡ old)
IsClosed (Some refusal) old new outcome = IsRejected refusal old new outcome

-- clauses may be added; the origins of variables, candidates, parents and the number of encoded
-- ones are kept
pub record KeepsRest {N S : Type 0} (old new : Encoder N S) : Type 0 where
  pub grows : Grows old.coding new.coding
  pub lists : new.lists ≡ old.lists
  pub parents : new.parents ≡ old.parents
  pub encoded : new.encoded ≡ old.encoded

module _ {N S : Type 0} (same : S → S → Bool) (p : Packages N S) (root : Rules) where
  -- no rule-keeping set includes the solvable with all that is true on the trail
  abbrev pub IsDenied : Encoder N S → S → Type 0
  IsDenied e s = (set : List S) → IsRuleKeeping same p root set
      → ((t : S) → IsTrue e t → is_in same p set t ≡ true) → is_in same p set s ≡ true → ⊥

  -- A refusal is justified: no rule-keeping set includes the soft requirement with what was chosen
  -- before its turn. Its clause denies nothing else.
  abbrev pub IsJustified : Encoder N S → Encoder N S → S → SoftOutcome → Type 0
  IsJustified old new s AlreadyChosen = ⊤
  IsJustified old new s Chosen = ⊤
  IsJustified old new s (Refused clause) = IsDenied old s
      × IsReasonOf new.coding (λ t. (t ≡ s) ⊎ IsTrue old t) clause.0
  IsJustified old new s (Unsat r) = IsUnsolvable same p root

-- The soft requirement was true or false before its turn, and this is the outcome. It took no place
-- of its package.
pub record Settles {N S : Type 0} (same : S → S → Bool) (soft : S) (old new : Encoder N S) (decided : SoftOutcome) : Type 0 where
  pub keeps : KeepsTrail old new
  pub places : new.registry ≡ old.registry
  pub lists : new.lists ≡ old.lists
  pub outcome : IsOutcome same soft old new decided
  pub right : (p : Packages N S) (root : Rules) → IsLawful p → IsEncoding same p root old
      → IsEncoding same p root new × IsJustified same p root old new soft decided

-- no variable of the solvable has a value
abbrev pub IsOpenSoft : {N S : Type 0} → Encoder N S → S → Type 0
IsOpenSoft e s = (v : VariableId) → Represents e.coding.atoms.keys v (Solvable s)
    → IsUndecided (made_true (history e.coding.search)) (yes v)

-- the same; or it was undecided, and nothing changed
abbrev pub IsSettled : {N S : Type 0} → (S → S → Bool) → S → Encoder N S → Encoder N S → Option SoftOutcome → Type 0
IsSettled same soft old new None = (new ≡ old) × IsOpenSoft old soft
IsSettled same soft old new (Some decided) = Settles same soft old new decided
