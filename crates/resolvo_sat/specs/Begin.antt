-- The search at its start, and its variables.
use Rattle.std.specs.Prelude.{◌≡◌, true, [], ◌∷◌, ◌++◌, List, length}
use Rattle.resolvo_pool_core.specs.declared.id.VariableId.{VariableId}
use Rattle.resolvo_store_core.specs.Clauses.{yes, root}
use Rattle.resolvo_store_core.specs.declared.decision.Entry.{Entry}
use Rattle.resolvo_sat.specs.Clauses.{SatClause}
use Rattle.resolvo_sat.specs.declared.state.SatState.{SatState}
use Rattle.resolvo_sat.specs.declared.state.VariableKind.{VariableKind}
use Rattle.resolvo_sat.specs.declared.state.VariableKind.TheVariants.{Root}
use Rattle.resolvo_sat.specs.declared.watch_lists.WatchLists.{WatchLists}
use Rattle.resolvo_sat.specs.State.{IsState}
use Rattle.resolvo_sat.specs.Propagation.{IsReady, AreCovered}

-- the one clause is the unit clause of the root, and follows from nothing
abbrev pub IsRootClause : List SatClause → Type 0
IsRootClause [] = ⊥
IsRootClause (c ∷ []) = (c.literals ≡ yes root ∷ []) × (c.causes ≡ [])
IsRootClause (c ∷ d ∷ cs) = ⊥

-- the trail's first entry
abbrev pub root_entry : Entry
root_entry = record { decision = record { variable = root; value = true; derived_from = record { 0 = 0 } }; level = 1 }

-- the root is true at level 1 by the first clause, and nothing else is there
pub record Begun (s : SatState) (w : WatchLists) : Type 0 where
  pub ready : IsReady s w
  pub covered : AreCovered s w
  pub variables : s.variables.items ≡ Root ∷ []
  pub clause : IsRootClause s.clauses
  pub trail : s.tracker.trail ≡ root_entry ∷ []
  pub base_level : s.base_level ≡ 1

-- the variable was appended
pub record AddsVariable (kind : VariableKind) (v : VariableId) (old new : SatState) : Type 0 where
  pub state : IsState new
  pub number : v.0 ≡ length old.variables.items
  pub variables : new.variables.items ≡ old.variables.items ++ kind ∷ []
  pub clauses : new.clauses ≡ old.clauses
  pub tracker : new.tracker ≡ old.tracker
  pub qhead : new.qhead ≡ old.qhead
  pub guard : new.guard_level ≡ old.guard_level
  pub base_level : new.base_level ≡ old.base_level
