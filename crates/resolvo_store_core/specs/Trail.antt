-- The trail: the decisions in the order in which they were taken.
use Rattle.std.specs.Prelude.{◌≡◌, ℕ, ◌<◌, ◌≤◌, ◌==◌, ⊤, Bool, List, [], ◌∷◌, ◌++◌, length, map, min, take, if◌then◌else◌, Option, Some, None, All}
use Rattle.std.specs.Option.{option_map}
use Rattle.resolvo_pool_core.specs.declared.id.VariableId.{VariableId}
use Rattle.resolvo_pool_core.specs.declared.id.ClauseId.{ClauseId}
use Rattle.resolvo_pool_core.specs.Slots.{at}
use Rattle.resolvo_store_core.specs.AtMostOne.{IsPrefixOf}
use Rattle.resolvo_store_core.specs.declared.decision.Decision.{Decision}
use Rattle.resolvo_store_core.specs.declared.decision.Entry.{Entry}
use Rattle.resolvo_store_core.specs.declared.decision_map.Assignment.{Assignment}

-- the level of an assignment, or 0 where there is none
abbrev pub level_or : Option Assignment → ℕ
level_or None = 0
level_or (Some a) = a.level

-- the value that an entry gives its variable
abbrev pub assignment_of : Entry → Assignment
assignment_of e = record { value = e.decision.value; level = e.level }

-- the value that the trail gives the variable of this index
abbrev pub assigned : List Entry → ℕ → Option Assignment
assigned [] v = None
assigned (e ∷ es) v = if e.decision.variable.0 == v then Some (assignment_of e) else assigned es v

-- the value of a variable under the trail
abbrev pub value_in : List Entry → ℕ → Option Bool
value_in es v = option_map (λ a. a.value) (assigned es v)

-- the reason clause of the variable's entry
abbrev pub clause_for : List Entry → ℕ → Option ClauseId
clause_for [] v = None
clause_for (e ∷ es) v = if e.decision.variable.0 == v then Some e.decision.derived_from else clause_for es v

-- the variables with their values, in order
abbrev pub values_of : List Entry → List (VariableId × Bool)
values_of es = map (λ e. (e.decision.variable, e.decision.value)) es

-- no variable is assigned twice
abbrev pub EachOnce : List Entry → Type 0
EachOnce [] = ⊤
EachOnce (e ∷ es) = (assigned es e.decision.variable.0 ≡ None) × EachOnce es

-- the level of the last entry, or 0 where there is none
abbrev pub last_level : List Entry → ℕ
last_level [] = 0
last_level (e ∷ []) = e.level
last_level (e ∷ d ∷ es) = last_level (d ∷ es)

-- the trail, the number of propagated entries, and the trail's least length since the last reset
pub record Tracked : Type 0 where
  pub trail : List Entry
  pub qhead : ℕ
  pub floor : ℕ

-- the last entry was taken away, which held this decision
pub record PopsLast (old new : Tracked) (d : Decision) : Type 0 where
  pub level : ℕ
  pub trail : old.trail ≡ new.trail ++ record { decision = d; level = level } ∷ []
  pub qhead : new.qhead ≡ min old.qhead (length new.trail)
  pub floor : new.floor ≡ min old.floor (length new.trail)

-- entries above the level were taken away from the end
pub record TakesAway (level : ℕ) (old new : Tracked) : Type 0 where
  pub undone : List Entry
  pub trail : old.trail ≡ new.trail ++ undone
  pub above : All (λ e. level < e.level) undone
  pub qhead : new.qhead ≡ min old.qhead (length new.trail)
  pub floor : new.floor ≡ min old.floor (length new.trail)

-- the entries above the level were taken away from the end, up to the first that is not above it
abbrev pub Undoes : ℕ → Tracked → Tracked → Type 0
Undoes level old new = TakesAway level old new × (last_level new.trail ≤ level)

-- the entries, as far as the trail's least length, are its first ones
abbrev pub IsSeenOf : Tracked → List Entry → Type 0
IsSeenOf t seen = IsPrefixOf (take t.floor seen) t.trail

-- entries that were the trail's first ones, as far as its least length, are so still
abbrev pub KeepsSeen : Tracked → Tracked → Type 0
KeepsSeen old new = (seen : List Entry) → IsSeenOf old seen → IsSeenOf new seen

-- the map agrees with the trail, no variable is assigned twice, and both numbers are within the trail
pub record IsTrail (map : List (Option Assignment)) (trail : List Entry) (qhead floor : ℕ) : Type 0 where
  pub mapped : (v : ℕ) → at map v ≡ assigned trail v
  pub once : EachOnce trail
  pub qhead_within : qhead ≤ length trail
  pub floor_within : floor ≤ length trail
