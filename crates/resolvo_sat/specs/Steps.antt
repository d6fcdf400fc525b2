-- What the steps of the search do.
use Rattle.std.specs.Prelude.{◌≡◌, ℕ, suc, ◌<◌, ◌≤◌, ◌⊎◌, true, List, [], ◌∷◌, ◌++◌, length, max, min}
use Rattle.resolvo_pool_core.specs.declared.id.ClauseId.{ClauseId}
use Rattle.resolvo_pool_core.specs.declared.id.VariableId.{VariableId}
use Rattle.resolvo_store_core.specs.Signed.{Signed, has}
use Rattle.resolvo_store_core.specs.AtMostOne.{IsPrefixOf}
use Rattle.resolvo_store_core.specs.Trail.{Tracked, KeepsSeen}
use Rattle.resolvo_store_core.specs.declared.decision.Entry.{Entry}
use Rattle.resolvo_sat.specs.Clauses.{SatClause}
use Rattle.resolvo_sat.specs.declared.state.SatState.{SatState}
use Rattle.resolvo_sat.specs.Entries.{top_level, IsChoice, IsOnTrail, IsUndone}
use Rattle.resolvo_sat.specs.State.{history, IsState}

-- the literal is of one of the variables
abbrev pub AreInRange : ℕ → List Signed → Type 0
AreInRange count literals = (l : Signed) → has literals l ≡ true → l.variable.0 < count

-- the entry of a literal that a clause forces
abbrev pub forced_entry : ClauseId → Signed → List Entry → Entry
forced_entry c l older = record { decision = record { variable = l.variable; value = l.positive; derived_from = c }; level = top_level older }

-- the entry of a variable that is chosen to be true, for a clause
abbrev pub choice_entry : VariableId → ClauseId → List Entry → Entry
choice_entry v c older = record { decision = record { variable = v; value = true; derived_from = c }; level = suc (top_level older) }

-- only the trail changed; what was seen of it, as far as its least length, is so still
pub record SameBut (old new : SatState) : Type 0 where
  pub variables : new.variables ≡ old.variables
  pub base_level : new.base_level ≡ old.base_level
  pub clauses : new.clauses ≡ old.clauses
  pub seen : KeepsSeen old.tracker new.tracker

-- each choice was one before, over the same older entries
abbrev pub KeepsChoices : List Entry → List Entry → Type 0
KeepsChoices old new = (e : Entry) (older : List Entry) → IsOnTrail new e older → IsChoice e older → IsOnTrail old e older

-- the literal was made true, forced by the clause
pub record Sets (c : ClauseId) (l : Signed) (old new : SatState) : Type 0 where
  pub state : IsState new
  pub same : SameBut old new
  pub pushed : new.tracker.trail ≡ old.tracker.trail ++ forced_entry c l (history old) ∷ []
  pub qhead : new.qhead ≡ old.qhead
  pub guard : new.guard_level ≡ old.guard_level

-- the variable was chosen to be true, at the next level
pub record Chooses (v : VariableId) (c : ClauseId) (old new : SatState) : Type 0 where
  pub state : IsState new
  pub same : SameBut old new
  pub pushed : new.tracker.trail ≡ old.tracker.trail ++ choice_entry v c (history old) ∷ []
  pub qhead : new.qhead ≡ old.qhead
  pub guard : new.guard_level ≡ old.guard_level

-- entries were taken away from the end of the trail, but not all
pub record Shortens (old new : Tracked) : Type 0 where
  pub left : IsPrefixOf new.trail old.trail
  pub seen : KeepsSeen old new
  pub some : 0 < length new.trail

-- propagation restarts at the trail's first entry; or it continues after the remaining ones, as no
-- guard was above the level
abbrev pub IsQheadUndone : ℕ → SatState → SatState → Type 0
IsQheadUndone level old new = (new.qhead ≡ 0) ⊎ ((1 ≤ level) × (old.guard_level ≤ level) × (new.guard_level ≡ old.guard_level) × (new.qhead ≡ min old.qhead (length new.tracker.trail)))

-- the entries above the level are gone, but for the root's, the first
pub record Undoes (level : ℕ) (old new : SatState) : Type 0 where
  pub state : IsState new
  pub same : SameBut old new
  pub undone : IsUndone level (history old) (history new)
  pub low : top_level (history new) ≤ max level 1
  pub root : level ≡ 0 → length new.tracker.trail ≡ 1
  pub qhead : IsQheadUndone level old new

-- the clause was appended
pub record Adds (c : SatClause) (id : ClauseId) (old new : SatState) : Type 0 where
  pub state : IsState new
  pub variables : new.variables ≡ old.variables
  pub base_level : new.base_level ≡ old.base_level
  pub tracker : new.tracker ≡ old.tracker
  pub qhead : new.qhead ≡ old.qhead
  pub guard : new.guard_level ≡ old.guard_level
  pub number : id.0 ≡ length old.clauses
  pub added : new.clauses ≡ old.clauses ++ c ∷ []
