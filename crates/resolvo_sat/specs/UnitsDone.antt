-- The notes of the unit clauses that are true.
use Rattle.std.specs.Prelude.{◌≡◌, ℕ, ◌-◌, ◌≤◌, ◌⊎◌, List, [], ◌∷◌, ◌++◌, length, slice_get, Some}
use Rattle.resolvo_sat.specs.declared.watch_lists.WatchLists.{WatchLists}
use Rattle.resolvo_sat.specs.declared.watch_lists.UnitsDone.{UnitsDone}

-- notes were dropped
pub record DropsDone (v w : WatchLists) : Type 0 where
  pub rest : w ≡ record v { units_done = w.units_done }
  pub kept : (i : ℕ) (d : UnitsDone) → slice_get w.units_done.items i ≡ Some d → slice_get v.units_done.items i ≡ Some d

-- the last note, whose entries are propagated; or there is none
abbrev pub IsLastDone : ℕ → List UnitsDone → UnitsDone → Type 0
IsLastDone propagated notes d = ((slice_get notes (length notes - 1) ≡ Some d) × (d.entries ≤ propagated)) ⊎ ((length notes ≡ 0) × (d ≡ record { entries = 0; assertions = 0; learnt = 0 }))

-- that all unit clauses are true was noted, or was known
pub record NotesDone (entries : ℕ) (v w : WatchLists) : Type 0 where
  pub rest : w ≡ record v { units_done = w.units_done }
  pub noted : (w.units_done ≡ v.units_done) ⊎ (w.units_done.items ≡ v.units_done.items ++ record { entries = entries; assertions = length v.assertions.items; learnt = length v.learnt.items } ∷ [])
