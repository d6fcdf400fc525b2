-- The outcome of an added assignment.
use Rattle.std.specs.Prelude.{Bool, true, false, List, [], ◌∷◌, ◌++◌, Option, Some, None}
use Rattle.resolvo_store_core.specs.declared.decision.Entry.{Entry}
use Rattle.resolvo_store_core.specs.declared.decision_tracker.Set.{Set}
use Rattle.resolvo_store_core.specs.declared.decision_tracker.Set.TheVariants.{New, Already, Opposite}
use Rattle.resolvo_store_core.specs.Trail.{Tracked}

-- new where the variable has no value, already where it has this one, else opposite
abbrev pub set_for : Bool → Option Bool → Set
set_for value None = New
set_for true (Some true) = Already
set_for true (Some false) = Opposite
set_for false (Some true) = Opposite
set_for false (Some false) = Already

-- the entries with the new one at their end, where it is new
abbrev pub entered : Set → Entry → List Entry → List Entry
entered New e es = es ++ e ∷ []
entered Already e es = es
entered Opposite e es = es

-- the trail with the entry at its end, where that is new
abbrev pub with_entry : Set → Entry → Tracked → Tracked
with_entry New e t = record t { trail = t.trail ++ e ∷ [] }
with_entry Already e t = t
with_entry Opposite e t = t
