-- The trail, read from its newest entry back.
use Rattle.std.specs.Prelude.{◌≡◌, ℕ, suc, ◌+◌, ◌-◌, ◌^◌, ◌<◌, ◌⊎◌, true, List, [], ◌∷◌, ◌++◌, reverse, take}
use Rattle.resolvo_store_core.specs.Signed.{Signed}
use Rattle.resolvo_store_core.specs.Clauses.{yes, root}
use Rattle.resolvo_store_core.specs.declared.decision.Entry.{Entry}
use Rattle.resolvo_sat.specs.Known.{IsUndecided, IsForced, clause_at}

-- the literal that an entry makes true
abbrev pub literal_of : Entry → Signed
literal_of e = record { variable = e.decision.variable; positive = e.decision.value }

-- the reason clause of an entry
abbrev pub reason_of : Entry → ℕ
reason_of e = e.decision.derived_from.0

-- the literals that entries make true
abbrev pub made_true : List Entry → List Signed
made_true [] = []
made_true (e ∷ older) = literal_of e ∷ made_true older

-- the first n entries, newest first
abbrev pub before : List Entry → ℕ → List Entry
before entries n = reverse (take n entries)

-- the level at which a trail ends, 0 before its first entry
abbrev pub top_level : List Entry → ℕ
top_level [] = 0
top_level (e ∷ older) = e.level

-- a choice makes a variable true and opens a level
pub record IsChoice (e : Entry) (older : List Entry) : Type 0 where
  pub opens : e.level ≡ suc (top_level older)
  pub positive : e.decision.value ≡ true

-- any other entry is forced by its clause, and has the level of the one before
pub record IsPropagated (clauses : List (List Signed)) (e : Entry) (older : List Entry) : Type 0 where
  pub level : e.level ≡ top_level older
  pub forced : IsForced (clause_at clauses (reason_of e)) (literal_of e) (made_true older)

abbrev pub IsReasoned : List (List Signed) → Entry → List Entry → Type 0
IsReasoned clauses e older = IsChoice e older ⊎ IsPropagated clauses e older

-- the entry may follow the older ones
pub record Follows (count : ℕ) (clauses : List (List Signed)) (e : Entry) (older : List Entry) : Type 0 where
  pub undecided : IsUndecided (made_true older) (literal_of e)
  pub in_range : e.decision.variable.0 < count
  pub reasoned : IsReasoned clauses e older

-- each entry may follow those before it
abbrev pub IsTrail : ℕ → List (List Signed) → List Entry → Type 0
IsTrail count clauses [] = Unit {0}
IsTrail count clauses (e ∷ older) = Follows count clauses e older × IsTrail count clauses older

-- an entry of this level makes the literal true
abbrev pub IsTrueAt : List Entry → Signed → ℕ → Type 0
IsTrueAt [] l k = ⊥
IsTrueAt (e ∷ older) l k = ((literal_of e ≡ l) × (e.level ≡ k)) ⊎ IsTrueAt older l k

-- the trail holds the entry, with these before it
abbrev pub IsOnTrail : List Entry → Entry → List Entry → Type 0
IsOnTrail [] e before_e = ⊥
IsOnTrail (d ∷ older) e before_e = ((d ≡ e) × (older ≡ before_e)) ⊎ IsOnTrail older e before_e

-- the oldest entry makes the root true, at level 1
abbrev pub IsRooted : List Entry → Type 0
IsRooted [] = ⊥
IsRooted (e ∷ []) = (literal_of e ≡ yes root) × (e.level ≡ 1)
IsRooted (e ∷ d ∷ older) = IsRooted (d ∷ older)

-- entries above the level were taken away, one after another
abbrev pub IsUndone : ℕ → List Entry → List Entry → Type 0
IsUndone level [] new = new ≡ []
IsUndone level (e ∷ older) new = (new ≡ e ∷ older) ⊎ ((level < e.level) × IsUndone level older new)

-- the trail extends an older one
abbrev pub EndsWith : List Entry → List Entry → Type 0
EndsWith base h = (p : List Entry) × (h ≡ p ++ base)

-- the trail's weight: an entry of a lower level weighs more than all that can be above it
abbrev pub weight : ℕ → List Entry → ℕ
weight count [] = 0
weight count (e ∷ older) = (count + 1) ^ (count + 1 - e.level) + weight count older
