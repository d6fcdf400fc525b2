-- One step of the search.
use Rattle.std.specs.Prelude.{◌≡◌, ℕ, ◌+◌, ◌*◌, ◌-◌, ◌^◌, ◌<◌, ◌≤◌, List, [], ◌∷◌, ◌++◌, length}
use Rattle.resolvo_pool_core.specs.declared.id.ClauseId.{ClauseId}
use Rattle.resolvo_sat.specs.Clauses.{SatClause}
use Rattle.resolvo_sat.specs.declared.state.SatState.{SatState}
use Rattle.resolvo_sat.specs.declared.watch_lists.WatchLists.{WatchLists}
use Rattle.resolvo_sat.specs.declared.propagate_and_learn.StepResult.{StepResult}
use Rattle.resolvo_store_core.specs.Trail.{KeepsSeen}
use Rattle.resolvo_store_core.specs.declared.decision.Entry.{Entry}
use Rattle.resolvo_sat.specs.Entries.{weight, top_level, EndsWith}
use Rattle.resolvo_sat.specs.State.{count_of, history, clauses_of, IsDerived, AreApart}
use Rattle.resolvo_sat.specs.Analysis.{AreFromClauses, IsRefusal}
use Rattle.resolvo_sat.specs.Steps.{KeepsChoices}
use Rattle.resolvo_sat.specs.Propagation.{IsReady, AreCovered, Extends, IsQuiet}
use Rattle.resolvo_sat.specs.Known.{clause_at}
use Rattle.resolvo_sat.specs.Entries.{made_true}

-- nothing is left to set: each clause has a true literal, or two that are not false
pub record Completes (old new : SatState) (w : WatchLists) : Type 0 where
  pub ready : IsReady new w
  pub covered : AreCovered new w
  pub extends : Extends old new
  pub quiet : (n : ℕ) → n < length new.clauses → IsQuiet (made_true (history new)) (clause_at (clauses_of new) n)

-- the trail up to the level is unchanged
abbrev pub KeepsUpTo : ℕ → SatState → SatState → Type 0
KeepsUpTo level old new = (base : List Entry) → top_level base ≤ level → EndsWith base (history old) → EndsWith base (history new)

-- A clause was learnt that follows from earlier ones. Its literals are among theirs, none beside its negation. The trail is
-- heavier than before, each of its decisions was there, and what was assigned before the turn is unchanged. What was seen of
-- the trail, as far as its least length, is so still.
pub record Improves (id : ClauseId) (old new : SatState) (w : WatchLists) : Type 0 where
  pub ready : IsReady new w
  pub covered : AreCovered new w
  pub variables : new.variables ≡ old.variables
  pub base_level : new.base_level ≡ old.base_level
  pub number : id.0 ≡ length old.clauses
  pub clause : SatClause
  pub added : new.clauses ≡ old.clauses ++ clause ∷ []
  pub derived : IsDerived (clauses_of old) clause.literals clause.causes
  pub caused : 0 < length clause.causes
  pub from : AreFromClauses old clause.literals
  pub apart : AreApart clause.literals
  pub heavier : weight (count_of old) (history old) < weight (count_of old) (history new)
  pub choices : KeepsChoices (history old) (history new)
  pub earlier : KeepsUpTo old.base_level old new
  pub seen : KeepsSeen old.tracker new.tracker

abbrev pub IsProgress : SatState → WatchLists → SatState → WatchLists → StepResult → Type 0
IsProgress old v new w StepResult.Complete = Completes old new w
IsProgress old v new w (StepResult.Learnt id) = Improves id old new w
IsProgress old v new w (StepResult.Refused r) = IsReady new w × AreCovered new w × Extends old new × IsRefusal new r.literals.items r.causes.items

-- how much weight the trail can still gain
abbrev pub weight_left : SatState → ℕ
weight_left s = count_of s * (count_of s + 1) ^ (count_of s + 1) - weight (count_of s) (history s)
