-- The state of the SAT core: variables, clauses with their causes (antecedents), and the trail.
use Rattle.std.specs.Prelude.{◌≡◌, ℕ, ◌^◌, ◌<◌, ◌≤◌, true, List, [], ◌∷◌, map, reverse, length}
use Rattle.std.specs.List.{AllByRecursion}
use Rattle.resolvo_pool_core.specs.declared.id.ClauseId.{ClauseId}
use Rattle.resolvo_store_core.specs.Signed.{Signed, negation, has}
use Rattle.resolvo_store_core.specs.Clauses.{no, root}
use Rattle.resolvo_store_core.specs.declared.decision.Entry.{Entry}
use Rattle.resolvo_sat.specs.Clauses.{SatClause}
use Rattle.resolvo_sat.specs.declared.state.SatState.{SatState}
use Rattle.resolvo_sat.specs.Known.{clause_at}
use Rattle.resolvo_sat.specs.Entries.{IsTrail, IsRooted}
use Rattle.resolvo_sat.specs.AnalyzeFinal.{Refutes}

-- how many variables there are
abbrev pub count_of : SatState → ℕ
count_of s = length s.variables.items

-- the trail, newest first
abbrev pub history : SatState → List Entry
history s = reverse s.tracker.trail

-- the literals of each clause
abbrev pub lists : List SatClause → List (List Signed)
lists cs = map (λ c. c.literals) cs

abbrev pub clauses_of : SatState → List (List Signed)
clauses_of s = lists s.clauses

-- the clauses of these places
abbrev pub named : List (List Signed) → List ClauseId → List (List Signed)
named clauses places = map (λ c. clause_at clauses c.0) places

abbrev pub AllBelow : ℕ → List ClauseId → Type 0
AllBelow n places = AllByRecursion (λ place. place.0 < n) places

-- the clause follows from its causes, which are among these clauses: one pass over them refutes
-- whatever makes its literals false and the root true
pub record IsDerived (earlier : List (List Signed)) (literals : List Signed) (causes : List ClauseId) : Type 0 where
  pub in_range : AllBelow (length earlier) causes
  pub refuted : Refutes (no root ∷ literals) (named earlier causes)

-- no literal and its negation are both here, nor is the root
abbrev pub AreApart : List Signed → Type 0
AreApart literals = (l : Signed) → has (no root ∷ literals) l ≡ true → has (no root ∷ literals) (negation l) ≡ true → ⊥

-- each clause with causes, newest first, follows from them, and they precede it
abbrev pub AreDerived : List SatClause → Type 0
AreDerived [] = Unit {0}
AreDerived (c ∷ older) = (0 < length c.causes → IsDerived (lists (reverse older)) c.literals c.causes) × AreDerived older

-- the invariant of the search's state between its steps
pub record IsState (s : SatState) : Type 0 where
  pub trail : IsTrail (count_of s) (clauses_of s) (history s)
  pub derived : AreDerived (reverse s.clauses)
  pub in_range : (n : ℕ) (l : Signed) → has (clause_at (clauses_of s) n) l ≡ true → l.variable.0 < count_of s
  pub small : count_of s < 2 ^ 31
  pub floor_low : 1 ≤ s.base_level
  pub rooted : IsRooted (history s)
