-- A new clause watches two of its literals.
use Rattle.std.specs.Prelude.{◌≡◌, ℕ, ◌<◌, ◌≤◌, ◌&&◌, ◌⊎◌, Bool, true, false, not, [], ◌∷◌, ◌++◌, List, length, map, slice_index_or, Option, Some, None, is_none, IfSome}
use Rattle.resolvo_pool_core.specs.declared.id.ClauseId.{ClauseId}
use Rattle.resolvo_pool_core.specs.declared.id.VariableId.{VariableId}
use Rattle.resolvo_store_core.specs.Signed.{Signed, negation, same_literal, has}
use Rattle.resolvo_store_core.specs.Clauses.{no}
use Rattle.resolvo_store_core.specs.AtMostOne.{ties}
use Rattle.resolvo_store_core.specs.Watches.{watchers, StartsIn}
use Rattle.resolvo_store_core.specs.declared.watched_literals.WatchedLiterals.{WatchedLiterals}
use Rattle.resolvo_sat.specs.Clauses.{SatClause, sat_clause}
use Rattle.resolvo_sat.specs.declared.state.SatState.{SatState}
use Rattle.resolvo_sat.specs.declared.watch_lists.WatchLists.{WatchLists}
use Rattle.resolvo_sat.specs.declared.watch_lists.UnitClause.{UnitClause}
use Rattle.resolvo_store_core.specs.Trail.{KeepsSeen}
use Rattle.resolvo_store_core.specs.declared.decision.Entry.{Entry}
use Rattle.resolvo_sat.specs.declared.analyze.Learnt.{Learnt}
use Rattle.resolvo_sat.specs.Entries.{made_true, top_level, IsUndone}
use Rattle.resolvo_sat.specs.State.{history}
use Rattle.resolvo_sat.specs.Steps.{Adds, forced_entry}
use Rattle.resolvo_sat.specs.Propagation.{IsOnly, IsOwnPair, IsReady, AreCovered}
use Rattle.resolvo_sat.specs.Pending.{AreOpen, KeepsLists}

-- the list, with this item appended where the flag is set
abbrev pub with_last : {X : Type 0} → Bool → X → List X → List X
with_last true x xs = xs ++ x ∷ []
with_last false x xs = xs

-- both literals, or they are equal
abbrev pub AreBoth : Signed → Signed → Option WatchedLiterals → Type 0
AreBoth l m None = l ≡ m
AreBoth l m (Some p) = (p.first ≡ l) × (p.second ≡ m) × (same_literal l m ≡ false)

-- the literal, or the one that there was
abbrev pub IsEither : Option Signed → Signed → Signed → Type 0
IsEither None l m = m ≡ l
IsEither (Some k) l m = (m ≡ l) ⊎ (m ≡ k)

-- a literal of the clause beside this one; or all are this one
abbrev pub IsBeside : List Signed → Signed → Option Signed → Type 0
IsBeside clause l None = (m : Signed) → has clause m ≡ true → m ≡ l
IsBeside clause l (Some m) = (has clause m ≡ true) × (same_literal l m ≡ false)

-- the same of the first ones of the literals
abbrev pub IsBesideSoFar : List Signed → List Signed → Signed → Option Signed → Type 0
IsBesideSoFar clause part l None = (m : Signed) → has part m ≡ true → m ≡ l
IsBesideSoFar clause part l (Some m) = (has clause m ≡ true) × (same_literal l m ≡ false)

-- two different literals of the clause; or it has this one alone
abbrev pub AreFirst : List Signed → Signed → Option WatchedLiterals → Type 0
AreFirst clause l None = IsOnly clause l
AreFirst clause l (Some p) = IsOwnPair clause p × (same_literal p.first p.second ≡ false)

-- the clause is first in the lists of the two that it watches
abbrev pub BeginsIn : ClauseId → Option WatchedLiterals → WatchLists → WatchLists → Type 0
BeginsIn c None old new = new.watches ≡ old.watches
BeginsIn c (Some p) old new = StartsIn c p (watchers old.watches) (watchers new.watches)

-- the clause of the next number watches the two; or it is listed as a unit clause, a rule or a learnt one
pub record Begins (x : UnitClause) (o : Option WatchedLiterals) (is_rule : Bool) (old new : WatchLists) : Type 0 where
  pub watched : new.watched.items ≡ old.watched.items ++ o ∷ []
  pub watches : BeginsIn x.clause o old new
  pub pending : new.pending ≡ old.pending
  pub assertions : new.assertions.items ≡ with_last (is_none o && is_rule) x old.assertions.items
  pub learnt : new.learnt.items ≡ with_last (is_none o && not is_rule) x old.learnt.items
  pub units_done : new.units_done ≡ old.units_done

-- the clause is pending, unless neither of the two that it watches is false
pub record NotesPending (c : ClauseId) (o : Option WatchedLiterals) (s : SatState) (v w : WatchLists) : Type 0 where
  pub rest : w ≡ record v { pending = w.pending }
  pub listed : ((w.pending ≡ v.pending) × IfSome o (AreOpen (made_true (history s)))) ⊎ (w.pending.items ≡ v.pending.items ++ c ∷ [])

-- the clause was appended, and the watch lists list it
pub record AddsClause (c : SatClause) (id : ClauseId) (old : SatState) (v : WatchLists) (new : SatState) (w : WatchLists) : Type 0 where
  pub adds : Adds c id old new
  pub ready : IsReady new w
  pub covered : AreCovered new w

-- these are the clause's two literals, and they differ
pub record IsPairOf (clause : List Signed) (p : WatchedLiterals) : Type 0 where
  pub is : clause ≡ p.first ∷ p.second ∷ []
  pub differ : same_literal p.first p.second ≡ false

-- where the flag is set, the literal isn't false
abbrev pub IsFreeIf : Bool → SatState → Signed → Type 0
IsFreeIf b s l = b ≡ true → has (made_true (history s)) (negation l) ≡ false

-- The clause watches both literals. It is pending, unless neither of them is false.
pub record BeginsPair (c : ClauseId) (p : WatchedLiterals) (s : SatState) (v w : WatchLists) : Type 0 where
  pub noted : WatchLists
  pub begun : WatchLists
  pub notes : NotesPending c (Some p) s v noted
  pub begins : Begins (record { clause = c; literal = p.first }) (Some p) true noted begun
  pub kept : KeepsLists begun w

-- the clause of a tie: where the one variable is true, the other one has this value
abbrev pub tie_clause : VariableId × VariableId × Bool → SatClause
tie_clause t = sat_clause (no t.0 ∷ (let l : Signed = record { variable = t.1; positive = t.2 } in l) ∷ []) []

-- the clauses that tie a variable to the binary digits of a place, from the lowest on
abbrev pub tie_clauses : ℕ → VariableId → List VariableId → List SatClause
tie_clauses place x digits = map tie_clause (ties place x digits)

-- The digit's variable has no value among these literals, and it is another one. So whatever value the tie gives it, its
-- literals differ, and the digit's isn't false.
pub record IsPlainDigit (known : List Signed) (x d : VariableId) : Type 0 where
  pub differ : (b : Bool) → same_literal (no x) (record { variable = d; positive = b }) ≡ false
  pub free : (b : Bool) → has known (negation (record { variable = d; positive = b })) ≡ false

-- no literal of the variable's ties is false, and those of each differ
pub record ArePlainTies (known : List Signed) (x : VariableId) (digits : List VariableId) : Type 0 where
  pub first : has known (negation (no x)) ≡ false
  pub each : (i : ℕ) → i < length digits → IsPlainDigit known x (slice_index_or digits i (record { 0 = 0 }))

-- these are among so many variables
abbrev pub AreVariables : ℕ → List VariableId → Type 0
AreVariables count vs = (i : ℕ) → i < length vs → (slice_index_or vs i (record { 0 = 0 })).0 < count

-- the clauses were appended, and the watch lists list them
pub record AddsClauses (cs : List SatClause) (old new : SatState) (w : WatchLists) : Type 0 where
  pub ready : IsReady new w
  pub covered : AreCovered new w
  pub variables : new.variables ≡ old.variables
  pub base_level : new.base_level ≡ old.base_level
  pub tracker : new.tracker ≡ old.tracker
  pub qhead : new.qhead ≡ old.qhead
  pub guard : new.guard_level ≡ old.guard_level
  pub added : new.clauses ≡ old.clauses ++ cs

-- The search jumped back to the backjump level, the learnt clause was added, and its asserting literal was assigned.
pub record Learns (x : Learnt) (id : ClauseId) (old new : SatState) (w : WatchLists) : Type 0 where
  pub ready : IsReady new w
  pub covered : AreCovered new w
  pub variables : new.variables ≡ old.variables
  pub base_level : new.base_level ≡ old.base_level
  pub number : id.0 ≡ length old.clauses
  pub added : new.clauses ≡ old.clauses ++ record { literals = x.literals.items; causes = x.causes.items } ∷ []
  pub base : List Entry
  pub undone : IsUndone x.level (history old) base
  pub low : top_level base ≤ x.level
  pub pushed : history new ≡ forced_entry id x.asserting base ∷ base
  pub seen : KeepsSeen old.tracker new.tracker
