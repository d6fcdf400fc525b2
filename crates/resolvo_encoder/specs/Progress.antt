-- The steps of the search over an encoding: propagation, learnt clauses, decisions and their end.
use Rattle.std.specs.Prelude.{◌≡◌, ℕ, ◌-◌, ◌<◌, ◌≤◌, Bool, true, false, Option, Some, None, length}
use Rattle.resolvo_store_core.specs.Lists.{named_by}
use Rattle.resolvo_store_core.specs.Pick.{pick_by}
use Rattle.resolvo_store_core.specs.declared.pick.NextDecision.{NextDecision}
use Rattle.resolvo_decide.specs.Queue.{needs_of}
use Rattle.resolvo_sat.specs.declared.analyze.FinalConflict.{FinalConflict}
use Rattle.resolvo_sat.specs.PropagateAndLearn.{weight_left, KeepsUpTo}
use Rattle.resolvo_sat.specs.Analysis.{IsRefusal}
use Rattle.resolvo_sat.specs.Entries.{made_true}
use Rattle.resolvo_sat.specs.Known.{clause_at}
use Rattle.resolvo_sat.specs.Propagation.{IsQuiet}
use Rattle.resolvo_sat.specs.State.{history, clauses_of}
use Rattle.resolvo_state.specs.Kinds.{Learnt}
use Rattle.resolvo_state.specs.SolverState.{IsCoding, Grows}
use Rattle.resolvo_state.specs.ClauseKinds.{kind_at}
use Rattle.resolvo_encoder.specs.Steps.{SameButCoding}
use Rattle.resolvo_encoder.specs.TurnLevels.{AreValues, IsDecided}
use Rattle.resolvo_encoder.specs.declared.step.Step.{Step}
use Rattle.resolvo_encoder.specs.declared.encoder.Encoder.{Encoder}

-- the next decision by the trail's values and the scores
pub record IsNext {N S : Type 0} (score : N → ℕ) (e : Encoder N S) (next : Option NextDecision) : Type 0 where
  pub values : ℕ → Option Bool
  pub agree : AreValues values (made_true (history e.coding.search))
  pub picked : pick_by (named_by e.lists) values score (needs_of e.queue) ≡ next

-- the queue was brought up to date with the trail, of which the least length alone changed
pub record Syncs {N S : Type 0} (old new : Encoder N S) : Type 0 where
  pub floor : ℕ
  pub rest : new ≡ record old { queue = new.queue; coding = record old.coding { search = record old.coding.search { tracker = record old.coding.search.tracker { floor = floor } } } }
  pub queue : needs_of new.queue ≡ needs_of old.queue

-- Literals were assigned, and each added clause is learnt. The variables, their origins, all but
-- the search, and the trail before the turn are unchanged.
pub record GoesOn {N S : Type 0} (old new : Encoder N S) : Type 0 where
  pub rest : SameButCoding old new
  pub coding : IsCoding new.coding
  pub atoms : new.coding.atoms ≡ old.coding.atoms
  pub variables : new.coding.search.variables ≡ old.coding.search.variables
  pub grows : Grows old.coding new.coding
  pub earlier : KeepsUpTo (old.coding.search.base_level - 1) old.coding.search new.coding.search
  pub learnt : (n : ℕ) → length old.coding.search.clauses ≤ n → n < length new.coding.search.clauses
      → kind_at new.coding.kinds.items n ≡ Some Learnt

-- each clause has a true literal, or two that are not false
abbrev pub AreQuiet : {N S : Type 0} → Encoder N S → Type 0
AreQuiet e = (n : ℕ) → n < length e.coding.search.clauses
    → IsQuiet (made_true (history e.coding.search)) (clause_at (clauses_of e.coding.search) n)

-- nothing is left to propagate or decide
pub record IsDone {N S : Type 0} (e : Encoder N S) : Type 0 where
  pub quiet : AreQuiet e
  pub values : ℕ → Option Bool
  pub score : N → ℕ
  pub agree : AreValues values (made_true (history e.coding.search))
  pub decided : IsDecided e values score

-- the trail gained weight
abbrev pub IsHeavier : {N S : Type 0} → Encoder N S → Encoder N S → Type 0
IsHeavier old new = weight_left new.coding.search < weight_left old.coding.search

-- the result of one step
abbrev pub IsStep : {N S : Type 0} → Encoder N S → Encoder N S → Step → Type 0
IsStep old new Step.Done = IsDone new
IsStep old new Step.Chosen = IsHeavier old new
IsStep old new (Step.Learnt clause) = IsHeavier old new
    × (clause.0 < length new.coding.search.clauses)
IsStep old new (Step.Refused r) = IsRefusal new.coding.search r.literals.items r.causes.items

-- whether a decision was made, or nothing is left to decide
abbrev pub IsChoice : {N S : Type 0} → Encoder N S → Encoder N S → Bool → Type 0
IsChoice old new true = IsHeavier old new
IsChoice old new false = IsDone new

-- the result of the search: nothing is left to propagate or decide, or a final conflict
abbrev pub IsDecision : {N S : Type 0} → Encoder N S → Option FinalConflict → Type 0
IsDecision e None = IsDone e
IsDecision e (Some r) = IsRefusal e.coding.search r.literals.items r.causes.items
