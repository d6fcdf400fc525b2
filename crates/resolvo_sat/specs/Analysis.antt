-- What is learnt from a broken clause.
use Rattle.std.specs.Prelude.{◌≡◌, ℕ, ◌<◌, ◌≤◌, ◌+◌, ◌⊎◌, Bool, true, false, List, [], ◌∷◌, ◌++◌, reverse, length, cond, slice_index_or, Option, Some, None, slice_get}
use Rattle.resolvo_pool_core.specs.declared.id.ClauseId.{ClauseId}
use Rattle.resolvo_pool_core.specs.declared.id.VariableId.{VariableId}
use Rattle.resolvo_store_core.specs.Signed.{Signed, negation, has}
use Rattle.resolvo_store_core.specs.Clauses.{no}
use Rattle.resolvo_store_core.specs.Trail.{assigned, level_or}
use Rattle.resolvo_store_core.specs.declared.decision.Entry.{Entry}
use Rattle.resolvo_sat.specs.declared.state.VariableKind.TheVariants.{Solvable}
use Rattle.resolvo_sat.specs.declared.state.SatState.{SatState}
use Rattle.resolvo_sat.specs.declared.analyze.Analysis.{Analysis}
use Rattle.resolvo_sat.specs.declared.analyze.Learnt.{Learnt}
use Rattle.resolvo_sat.specs.declared.analyze.FinalConflict.{FinalConflict}
use Rattle.resolvo_sat.specs.Known.{IsFalseUnder, clause_at}
use Rattle.resolvo_sat.specs.Entries.{literal_of, made_true, before, top_level, IsChoice, IsPropagated, IsTrail, IsTrueAt, IsOnTrail}
use Rattle.resolvo_sat.specs.State.{history, clauses_of, IsDerived}

-- the entry's variable is marked
abbrev pub is_seen : List Bool → Entry → Bool
is_seen seen e = slice_index_or seen e.decision.variable.0 false

-- the negations of the marked entries' literals
abbrev pub denied : List Bool → List Entry → List Signed
denied seen [] = []
denied seen (e ∷ older) = cond (is_seen seen e) (negation (literal_of e) ∷ denied seen older) (denied seen older)

-- the variables of these literals, but the root's, are marked too, and no others
pub record Seen (literals : List Signed) (old new : List Bool) : Type 0 where
  pub keeps : (v : ℕ) → slice_index_or old v false ≡ true → slice_index_or new v false ≡ true
  pub takes : (l : Signed) → has literals l ≡ true → (l.variable.0 ≡ 0) ⊎ (slice_index_or new l.variable.0 false ≡ true)
  pub only : (v : ℕ) → slice_index_or new v false ≡ true → (slice_index_or old v false ≡ true) ⊎ ((v ≡ 0 → ⊥) × ((l : Signed) × (has literals l ≡ true) × (l.variable.0 ≡ v)))

-- of each trail no more than so many entries are newly marked
abbrev pub MarksAtMost : ℕ → List Bool → List Bool → Type 0
MarksAtMost n old new = (count : ℕ) (cs : List (List Signed)) (h : List Entry) → IsTrail count cs h → length (denied new h) ≤ length (denied old h) + n

-- the literal was appended, where it is new
abbrev pub IsAppended : Signed → Bool → List Signed → List Signed → Type 0
IsAppended l false old new = new ≡ old
IsAppended l true old new = new ≡ old ++ l ∷ []

-- the literal was appended, or nothing changed
abbrev pub MayBeAppended : Signed → List Signed → List Signed → Type 0
MayBeAppended l old new = (new ≡ old) ⊎ (new ≡ old ++ l ∷ [])

-- a literal of each newly marked variable was met; only literals of the root and of these were
pub record Collects (literals : List Signed) (old : List Bool) (earlier : List Signed) (new : List Bool) (met : List Signed) : Type 0 where
  pub keeps : (l : Signed) → has earlier l ≡ true → has met l ≡ true
  pub covers : (v : ℕ) → slice_index_or new v false ≡ true → (slice_index_or old v false ≡ true) ⊎ ((l : Signed) × (has met l ≡ true) × (l.variable.0 ≡ v))
  pub only : (l : Signed) → has met l ≡ true → (has earlier l ≡ true) ⊎ ((has literals l ≡ true) × ((l.variable.0 ≡ 0) ⊎ (slice_index_or old l.variable.0 false ≡ false)))

-- each marked entry is below the level
abbrev pub AreDeniedBelow : List Bool → List Entry → ℕ → Type 0
AreDeniedBelow seen h level = (l : Signed) → has (denied seen h) l ≡ true → (k : ℕ) × (k < level) × IsTrueAt h (negation l) k

-- the entry is the last marked one of its level, above the turn's first one; or no choice is there above that one
abbrev pub IsAsserting : SatState → List Bool → Entry → List Entry → Bool → Type 0
IsAsserting s seen e older false = s.base_level < e.level → top_level older < e.level → ⊥
IsAsserting s seen e older true = (s.base_level < e.level) × AreDeniedBelow seen older e.level

-- the variable represents a solvable
abbrev pub IsSolvable : SatState → ℕ → Type 0
IsSolvable s v = slice_get s.variables.items v ≡ Some Solvable

-- a decision that the search does not undo: a solvable chosen before the turn, or the decision that
-- began it
pub record IsAssumption (s : SatState) (e : Entry) (older : List Entry) : Type 0 where
  pub chosen : e.decision.value ≡ true
  pub low : e.level ≤ s.base_level
  pub begins : ((e.level < s.base_level) × IsSolvable s e.decision.variable.0) ⊎ IsChoice e older

-- the literal denies a kept choice
abbrev pub DeniesAssumption : SatState → Signed → Type 0
DeniesAssumption s l = (e : Entry) × (older : List Entry) × IsOnTrail (history s) e older × (literal_of e ≡ negation l) × IsAssumption s e older

-- each literal denies a kept choice
abbrev pub DenyAssumptions : SatState → List Signed → Type 0
DenyAssumptions s literals = (l : Signed) → has literals l ≡ true → DeniesAssumption s l

-- each literal denies a kept choice, or is one of these
abbrev pub DenyAssumptionsBut : SatState → List Signed → List Signed → Type 0
DenyAssumptionsBut s these literals = (l : Signed) → has literals l ≡ true → (has these l ≡ true) ⊎ DeniesAssumption s l

-- each literal is in some clause
abbrev pub AreFromClauses : SatState → List Signed → Type 0
AreFromClauses s literals = (l : Signed) → has literals l ≡ true → (n : ℕ) × (has (clause_at (clauses_of s) n) l ≡ true)

-- a literal of each marked variable was met; what was met is false, and is in some clause
pub record IsMet (s : SatState) (seen : List Bool) (met : List Signed) : Type 0 where
  pub covers : (v : ℕ) → slice_index_or seen v false ≡ true → (l : Signed) × (has met l ≡ true) × (l.variable.0 ≡ v)
  pub falls : IsFalseUnder (made_true (history s)) met
  pub from : AreFromClauses s met

-- these are the literals that were met below the level, and none is above the highest one
pub record IsBelow (s : SatState) (met : List Signed) (level : ℕ) (literals : List Signed) (highest : ℕ) : Type 0 where
  pub only : (l : Signed) → has literals l ≡ true → (has met l ≡ true) × (level_or (assigned s.tracker.trail l.variable.0) ≤ highest)
  pub takes : (l : Signed) → has met l ≡ true → level_or (assigned s.tracker.trail l.variable.0) < level → has literals l ≡ true
  pub low : highest < level

-- each literal but this one is false at the level or below
abbrev pub IsBoundedBut : Signed → List Entry → List Signed → ℕ → Type 0
IsBoundedBut except h clause level = (l : Signed) → has clause l ≡ true → (l ≡ except) ⊎ ((k : ℕ) × (k ≤ level) × IsTrueAt h (negation l) k)

-- the learnt clause follows from its causes, and after a jump to its level all its literals but the asserted one are false
pub record IsLearnt (s : SatState) (x : Learnt) : Type 0 where
  pub derived : IsDerived (clauses_of s) x.literals.items x.causes.items
  pub caused : 0 < length x.causes.items
  pub from : AreFromClauses s x.literals.items
  pub present : has x.literals.items x.asserting ≡ true
  pub others : IsBoundedBut x.asserting (history s) x.literals.items x.level
  pub fell : (k : ℕ) × (x.level < k) × IsTrueAt (history s) (negation x.asserting) k
  pub low : s.base_level ≤ x.level

-- the clause follows from its causes, which hold its literals, and denies kept decisions alone
pub record IsRefusal (s : SatState) (literals : List Signed) (causes : List ClauseId) : Type 0 where
  pub derived : IsDerived (clauses_of s) literals causes
  pub caused : 0 < length causes
  pub from : AreFromClauses s literals
  pub denies : DenyAssumptions s literals

-- Why a literal holds: the clause follows from its causes, which hold its literals.
-- But for this literal it denies kept decisions alone.
pub record IsReason (s : SatState) (l : Signed) (literals : List Signed) (causes : List ClauseId) : Type 0 where
  pub derived : IsDerived (clauses_of s) literals causes
  pub caused : 0 < length causes
  pub from : AreFromClauses s literals
  pub denies : DenyAssumptionsBut s (l ∷ []) literals

-- the clause follows from its causes, which hold its literals, and it only denies
pub record IsDenial (s : SatState) (literals : List Signed) (causes : List ClauseId) : Type 0 where
  pub derived : IsDerived (clauses_of s) literals causes
  pub caused : 0 < length causes
  pub from : AreFromClauses s literals
  pub negative : (l : Signed) → has literals l ≡ true → l.positive ≡ false

-- the variable is false, by this reason; or it isn't false
abbrev pub IsRefuted : SatState → VariableId → Option FinalConflict → Type 0
IsRefuted s v None = has (made_true (history s)) (no v) ≡ true → ⊥
IsRefuted s v (Some r) = (has (made_true (history s)) (no v) ≡ true) × IsReason s (no v) r.literals.items r.causes.items

abbrev pub IsAnalysis : SatState → Analysis → Type 0
IsAnalysis s (Analysis.Refused x) = IsRefusal s x.literals.items x.causes.items
IsAnalysis s (Analysis.Learnt x) = IsLearnt s x

-- the learnt clause of an entry that is the last of its level, from these parts
abbrev pub IsLearntOf : List Signed → List Signed → List ClauseId → Entry → ℕ → Analysis → Type 0
IsLearntOf literals kept causes e level (Analysis.Refused x) = ⊥
IsLearntOf literals kept causes e level (Analysis.Learnt x) = (x.literals.items ≡ (literals ++ kept) ++ negation (literal_of e) ∷ []) × (x.causes.items ≡ reverse causes) × (x.asserting ≡ negation (literal_of e)) × (x.level ≡ level)

-- a choice, made before the turn where it is below its first level; else its clause forces it
abbrev pub IsDecisionOrForced : SatState → Entry → List Entry → Bool → Type 0
IsDecisionOrForced s e older true = (e.decision.value ≡ true) × (((e.level < s.base_level) × IsSolvable s e.decision.variable.0) ⊎ IsChoice e older)
IsDecisionOrForced s e older false = IsPropagated (clauses_of s) e older

-- The walk back along the trail is at this place: one pass over the causes, the newest first,
-- refutes whatever denies the marked entries before it and makes the kept literals false. These deny kept choices, but for
-- the literals from which the walk began.
pub record Walks (s : SatState) (begun : List Signed) (place : ℕ) (seen : List Bool) (kept : List Signed) (causes : List ClauseId) : Type 0 where
  pub in_range : place ≤ length s.tracker.trail
  pub derived : IsDerived (clauses_of s) (denied seen (before s.tracker.trail place) ++ kept) (reverse causes)
  pub caused : 0 < length causes
  pub from : AreFromClauses s (denied seen (before s.tracker.trail place) ++ kept)
  pub denies : DenyAssumptionsBut s begun kept
  pub rootless : slice_index_or seen 0 false ≡ false
