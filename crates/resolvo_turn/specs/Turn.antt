-- The result of a turn.
use Rattle.std.specs.Prelude.{◌≡◌, ℕ, ◌<◌, ◌≤◌, ◌+◌, ◌-◌, ◌*◌, nat_lt, cond, drop, ◌⊎◌, Bool, true, List, length, Option, Some, None, Contains, slice_get}
use Rattle.resolvo_pool_core.specs.declared.id.VariableId.{VariableId}
use Rattle.resolvo_store_core.specs.Clauses.{yes}
use Rattle.resolvo_store_core.specs.Signed.{has}
use Rattle.resolvo_encoder.specs.Base.{base_of, IsTaken, IsTried}
use Rattle.resolvo_pool_core.specs.declared.solver_id.SolvableIdOrRoot.TheVariants.{Root, Solvable}
use Rattle.resolvo_turn.specs.declared.turn.Round.{Round}
use Rattle.resolvo_turn.specs.declared.turn.Round.TheVariants.{Continues, Complete, Refused}
use Rattle.resolvo_sat.specs.declared.analyze.FinalConflict.{FinalConflict}
use Rattle.resolvo_sat.specs.Analysis.{IsRefusal}
use Rattle.resolvo_sat.specs.Entries.{made_true}
use Rattle.resolvo_sat.specs.State.{history}
use Rattle.resolvo_state.specs.Chosen.{AreChosen, choices}
use Rattle.resolvo_encoder.specs.Conditions.{AreSpent}
use Rattle.resolvo_encoder.specs.Encoded.{IsWhole}
use Rattle.resolvo_encoder.specs.TurnLevels.{AreAmongEncoded}
use Rattle.resolvo_encoder.specs.Progress.{IsDone}
use Rattle.resolvo_encoder.specs.Steps.{AddsParent}
use Rattle.resolvo_encoder.specs.declared.encoder.Encoder.{Encoder}

-- the solvables that the turn's entries choose, in the order of the trail
abbrev pub in_turn : {N S : Type 0} → Encoder N S → List S
in_turn e = choices e.coding.atoms.keys (drop (length (base_of e)) e.coding.search.tracker.trail)

-- the solvables that were true before the turn are among the parents
abbrev pub AreTakenParents : {N S : Type 0} → Encoder N S → Type 0
AreTakenParents {N} {S} e = (s : S) → IsTaken e s → Contains e.parents.keys (Solvable s)

-- the rules of the root and of each chosen solvable are clauses
abbrev pub AreChosenEncoded : {N S : Type 0} → Encoder N S → Type 0
AreChosenEncoded {N} {S} e = (members : List S)
    → AreChosen e.coding.atoms.keys (made_true (history e.coding.search)) members
    → AreAmongEncoded e members

-- the turn's soft requirement, if there is one, is true
abbrev pub HasSoft : {N S : Type 0} → Option VariableId → Encoder N S → Type 0
HasSoft None e = Unit {0}
HasSoft (Some v) e = has (made_true (history e.coding.search)) (yes v) ≡ true

-- the clauses and the turn's assumption are unsatisfiable, or the soft requirement is false by the
-- trail before its turn
abbrev pub IsRefusedBy : {N S : Type 0} → Option VariableId → Encoder N S → FinalConflict → Type 0
IsRefusedBy None e r = IsRefusal e.coding.search r.literals.items r.causes.items
IsRefusedBy (Some v) e r = (IsRefusal e.coding.search r.literals.items r.causes.items
    × HasSoft (Some v) e) ⊎ IsTried e v (Some r)

-- nothing is left to propagate or to decide in the turn, or it is refused
abbrev pub IsDecisionOf : {N S : Type 0} → Option VariableId → Encoder N S → Option FinalConflict → Type 0
IsDecisionOf soft e None = IsDone e × HasSoft soft e
IsDecisionOf soft e (Some r) = IsRefusedBy soft e r

-- the first try of the turn's soft requirement: it is true, or this conflict is the reason that it
-- is false
abbrev pub IsBegunBy : {N S : Type 0} → Option VariableId → Encoder N S → Option FinalConflict → Type 0
IsBegunBy soft e None = HasSoft soft e
IsBegunBy None e (Some r) = ⊥
IsBegunBy (Some v) e (Some r) = IsTried e v (Some r)

-- nothing is left to propagate, decide or encode, no deferred case holds, and no clause waits; or
-- the turn is refused
abbrev pub IsTurn : {N S : Type 0} → (S → S → Bool) → Option VariableId → Encoder N S → Option FinalConflict → Type 0
IsTurn same soft e None = IsDone e × AreChosenEncoded e × AreSpent same e × IsWhole e
    × HasSoft soft e
IsTurn same soft e (Some r) = IsRefusedBy soft e r

-- the chosen solvables are among the parents
pub record AddsChosen {N S : Type 0} (old new : Encoder N S) : Type 0 where
  pub added : AddsParent old new
  pub chosen : (members : List S)
      → AreChosen new.coding.atoms.keys (made_true (history new.coding.search)) members → (s : S)
      → Contains members s → Contains new.parents.keys (Solvable s)

-- the root is the first parent
abbrev pub IsRooted : {N S : Type 0} → Encoder N S → Type 0
IsRooted e = slice_get e.parents.keys 0 ≡ Some Root

-- more cases became clauses
pub record FiresMore {N S : Type 0} (old new : Encoder N S) : Type 0 where
  pub more : length old.fired.keys < length new.fired.keys
  pub bounded : length new.fired.keys < 18446744073709551616

-- a parent is still to be encoded
abbrev pub IsWaiting : {N S : Type 0} → Encoder N S → Type 0
IsWaiting e = e.encoded < length e.parents.keys

-- More parents are encoded, more cases became clauses, or there is a parent to encode where there
-- was none.
abbrev pub MakesProgress : {N S : Type 0} → Encoder N S → Encoder N S → Type 0
MakesProgress old new = ((old.encoded < new.encoded) × (new.encoded < 18446744073709551616))
    ⊎ (FiresMore old new ⊎ ((length old.parents.keys ≤ old.encoded) × IsWaiting new))

-- A bound of the rounds: one for each parent and for each case that may still be encoded. One more
-- where no parent is to be encoded.
abbrev pub rounds_left : {N S : Type 0} → Encoder N S → ℕ
rounds_left e = 2 * (18446744073709551616 - e.encoded) + 2 * (18446744073709551616 - length e.fired.keys) + cond (nat_lt e.encoded (length e.parents.keys)) 0 1

-- the result of a round: progress, or the end of the turn
abbrev pub IsRound : {N S : Type 0} → (S → S → Bool) → Option VariableId → Encoder N S → Encoder N S → Round → Type 0
IsRound same soft old new Continues = MakesProgress old new
IsRound same soft old new Complete = IsTurn same soft new None
IsRound same soft old new (Refused r) = IsTurn same soft new (Some r)

-- there is a parent to encode, or more cases became clauses
abbrev pub FindsMore : {N S : Type 0} → Encoder N S → Encoder N S → Type 0
FindsMore old new = (IsWaiting new × (new.encoded < 18446744073709551616)) ⊎ FiresMore old new

-- the chosen solvables are among the parents, all of which are encoded, and no deferred case holds
pub record FindsNone {N S : Type 0} (same : S → S → Bool) (old new : Encoder N S) : Type 0 where
  pub chosen : AddsChosen old new
  pub none : slice_get new.parents.keys new.encoded ≡ None
  pub spent : AreSpent same new
