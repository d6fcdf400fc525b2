-- The registered solvables of each package, and their ties to the digits of their places.
use Rattle.std.specs.Prelude.{◌≡◌, ℕ, ◌+◌, ◌^◌, ◌==◌, ◌<◌, ◌≤◌, ◌⊎◌, Bool, min, List, [], ◌∷◌, length, slice_get, Option, Some, None, Contains}
use Rattle.resolvo_pool_core.specs.declared.id.VariableId.{VariableId}
use Rattle.resolvo_pool_core.specs.OnePass.{Literal}
use Rattle.resolvo_store_core.specs.Clauses.{no}
use Rattle.resolvo_store_core.specs.Signed.{Signed}
use Rattle.resolvo_store_core.specs.AtMostOne.{Tracking, IsPrefixOf, digit}
use Rattle.resolvo_sat.specs.Known.{clause_at}
use Rattle.resolvo_sat.specs.State.{clauses_of}
use Rattle.resolvo_sat.specs.RuleClauses.{Atom, Rule, minus}
use Rattle.resolvo_sat.specs.Numbered.{Spells}
use Rattle.resolvo_state.specs.declared.atom.ProofAtom.{ProofAtom}
use Rattle.resolvo_state.specs.declared.atom.ProofAtom.TheVariants.{Solvable, Bit}
use Rattle.resolvo_state.specs.Kinds.{Digit}
use Rattle.resolvo_state.specs.declared.solver_state.SolverState.{SolverState}
use Rattle.resolvo_state.specs.declared.registry.Registry.{Registry}
use Rattle.resolvo_state.specs.declared.registry.Member.{Member}
use Rattle.resolvo_state.specs.Atoms.{origin, Represents}
use Rattle.resolvo_state.specs.Keys.{AreOnce}
use Rattle.resolvo_state.specs.ClauseKinds.{kind_at, rules_in}
use Rattle.resolvo_state.specs.SolverState.{IsCoding, Grows, SameTrail}

abbrev pub same_variable : VariableId → VariableId → Bool
same_variable v w = v.0 == w.0

-- the literals of a clause that ties a solvable to a digit of its place
abbrev pub digit_literals : {N S : Type 0} → N → S → ℕ → Bool → List (Literal (Atom N S))
digit_literals {N} {S} name s bit value = minus (Atom.solvable s) ∷ (let l : Literal (Atom N S) = record { atom = Atom.digit name bit; positive = value } in l) ∷ []

-- The tracker of a package: its variables represent solvables, its helpers the digits in order, as many as distinguish the
-- places apart and fewer than 32, and a clause encodes each digit of each place.
pub record IsTied {N S : Type 0} (name : N) (t : Tracking VariableId) (c : SolverState N S) : Type 0 where
  pub solvables : (v : VariableId) → Contains t.variables v → (s : S) × Represents c.atoms.keys v (Solvable s)
  pub digits : (i : ℕ) (v : VariableId) → slice_get t.helpers i ≡ Some v → Represents c.atoms.keys v (Bit name i)
  pub room : length t.variables ≤ 2 ^ length t.helpers
  pub few : length t.helpers < 32
  pub once : AreOnce t.variables
  pub by_digits : (place i : ℕ) (v : VariableId) (s : S) → slice_get t.variables place ≡ Some v → Represents c.atoms.keys v (Solvable s) → i < length t.helpers → rules_in c.kinds.items (Rule.has_digit s i (digit place i))

-- at this place of the package's tracker is the solvable's variable
pub record IsPlaced {N S : Type 0} (r : Registry N) (c : SolverState N S) (name : N) (place : ℕ) (s : S) : Type 0 where
  pub number : ℕ
  pub tracker : Tracking VariableId
  pub variable : VariableId
  pub named : slice_get r.names.keys number ≡ Some name
  pub tracked : slice_get r.trackers.items number ≡ Some tracker
  pub present : slice_get tracker.variables place ≡ Some variable
  pub means : Represents c.atoms.keys variable (Solvable s)

-- the variable is in the package's tracker
pub record IsInTracker {N : Type 0} (r : Registry N) (name : N) (v : VariableId) : Type 0 where
  pub place : ℕ
  pub tracker : Tracking VariableId
  pub named : slice_get r.names.keys place ≡ Some name
  pub tracked : slice_get r.trackers.items place ≡ Some tracker
  pub present : Contains tracker.variables v

-- a variable with its package
abbrev pub member : {N : Type 0} → N → VariableId → Member N
member name v = record { name = name; variable = v }

-- the variable is registered as one of the package's
abbrev pub IsTracked : {N : Type 0} → Registry N → N → VariableId → Type 0
IsTracked r name v = Contains r.members.keys (member name v)

-- the variable is registered, and waits for its digits
abbrev pub IsQueued : {N : Type 0} → Registry N → N → VariableId → Type 0
IsQueued r name v = (k : ℕ) × (r.tied ≤ k) × (slice_get r.members.keys k ≡ Some (member name v))

-- the package is marked `many`
abbrev pub IsMany : {N : Type 0} → Registry N → N → Type 0
IsMany r name = Contains r.many.keys name

-- Each package has one tracker, and each is tied. A clause that encodes a digit of a place encodes
-- it of the solvable there. What is registered is in a tracker, or waits, or its package is marked.
pub record AreTied {N S : Type 0} (r : Registry N) (c : SolverState N S) : Type 0 where
  pub each : length r.names.keys ≡ length r.trackers.items
  pub once : AreOnce r.names.keys
  pub tied : (k : ℕ) (name : N) (t : Tracking VariableId) → slice_get r.names.keys k ≡ Some name → slice_get r.trackers.items k ≡ Some t → IsTied name t c
  pub placed : (n : ℕ) (name : N) (s : S) (place bit : ℕ) → kind_at c.kinds.items n ≡ Some (Digit name s place bit) → IsPlaced r c name place s
  pub within : r.tied ≤ length r.members.keys
  pub solvables : (name : N) (v : VariableId) → IsTracked r name v → (s : S) × Represents c.atoms.keys v (Solvable s)
  pub registered : (name : N) (v : VariableId) → IsInTracker r name v → IsTracked r name v
  pub rest : (name : N) (v : VariableId) → IsTracked r name v → IsInTracker r name v ⊎ (IsQueued r name v ⊎ IsMany r name)

-- the solvable is registered as one of the package's
abbrev pub IsRegistered : {N S : Type 0} → Registry N → SolverState N S → N → S → Type 0
IsRegistered r c name s = (v : VariableId) × Represents c.atoms.keys v (Solvable s) × IsTracked r name v

-- no solvable is registered
pub record IsNothing {N : Type 0} (r : Registry N) : Type 0 where
  pub names : r.names.keys ≡ []
  pub trackers : r.trackers.items ≡ []
  pub members : r.members.keys ≡ []
  pub tied : r.tied ≡ 0
  pub many : r.many.keys ≡ []

-- the package is marked, and nothing else changed
pub record MarksMany {N : Type 0} (name : N) (r t : Registry N) : Type 0 where
  pub keeps : (m : N) → IsMany r m → IsMany t m
  pub marked : IsMany t name
  pub only : (m : N) → IsMany t m → IsMany r m ⊎ (m ≡ name)
  pub rest : t ≡ record r { many = t.many }

-- the clause of this number ties a registered solvable of the package to a digit, one of 32
pub record IsDigitClause {N S : Type 0} (r : Registry N) (c : SolverState N S) (name : N) (n : ℕ) : Type 0 where
  pub solvable : S
  pub place : ℕ
  pub bit : ℕ
  pub few : bit < 32
  pub registered : IsRegistered r c name solvable
  pub kinds : kind_at c.kinds.items n ≡ Some (Digit name solvable place bit)
  pub spells : Spells (origin c.atoms.keys) (clause_at (clauses_of c.search) n) (digit_literals name solvable bit (digit place bit))

-- The solvable is registered, with this variable; no other one was added. It waits for its digits,
-- unless it was registered before. No clause was added.
pub record Registers {N S : Type 0} (name : N) (s : S) (v : VariableId) (r : Registry N) (old : SolverState N S) (t : Registry N) (new : SolverState N S) : Type 0 where
  pub coding : IsCoding new
  pub grows : Grows old new
  pub trail : SameTrail old new
  pub tied : AreTied t new
  pub clauses : new.search.clauses ≡ old.search.clauses
  pub kinds : new.kinds ≡ old.kinds
  pub present : Represents new.atoms.keys v (Solvable s)
  pub registered : IsTracked t name v
  pub keeps : (m : N) (u : VariableId) → IsTracked r m u → IsTracked t m u
  pub waits : (m : N) (u : VariableId) → IsQueued r m u → IsQueued t m u
  pub only : (m : N) (u : VariableId) → IsTracked t m u → IsTracked r m u ⊎ ((m ≡ name) × (u ≡ v) × IsQueued t m u)
  pub many : t.many ≡ r.many

-- The registered solvable is in its package's tracker. Each new clause ties a solvable to a digit.
-- Those that are registered are unchanged, and so are those that wait.
pub record Places {N S : Type 0} (name : N) (s : S) (r : Registry N) (old : SolverState N S) (t : Registry N) (new : SolverState N S) : Type 0 where
  pub coding : IsCoding new
  pub grows : Grows old new
  pub trail : SameTrail old new
  pub tied : AreTied t new
  pub members : t.members ≡ r.members
  pub waits : t.tied ≡ r.tied
  pub many : t.many ≡ r.many
  pub variable : VariableId
  pub present : Represents new.atoms.keys variable (Solvable s)
  pub placed : IsInTracker t name variable
  pub keeps : (m : N) (u : VariableId) → IsInTracker r m u → IsInTracker t m u
  pub digits : (n : ℕ) → length old.search.clauses ≤ n → n < length new.search.clauses → IsDigitClause t new name n

-- the place is the package's; a new one was appended, with nothing tracked
pub record PlacesName {N : Type 0} (name : N) (place : ℕ) (old new : Registry N) : Type 0 where
  pub names : IsPrefixOf old.names.keys new.names.keys
  pub trackers : IsPrefixOf old.trackers.items new.trackers.items
  pub each : length new.names.keys ≡ length new.trackers.items
  pub present : slice_get new.names.keys place ≡ Some name
  pub once : AreOnce old.names.keys → AreOnce new.names.keys
  pub members : new.members ≡ old.members
  pub waits : new.tied ≡ old.tied
  pub many : new.many ≡ old.many
  pub fresh : (k : ℕ) (t : Tracking VariableId) → length old.trackers.items ≤ k → slice_get new.trackers.items k ≡ Some t → (t.variables ≡ []) × (t.helpers ≡ [])

-- the variable of the next digit of the package, where one is made
pub record GivesDigit {N S : Type 0} (name : N) (count : ℕ) (given : Option VariableId) (old new : SolverState N S) : Type 0 where
  pub coding : IsCoding new
  pub grows : Grows old new
  pub trail : SameTrail old new
  pub clauses : new.search.clauses ≡ old.search.clauses
  pub kinds : new.kinds ≡ old.kinds
  pub present : (v : VariableId) → given ≡ Some v → Represents new.atoms.keys v (Bit name count)
  pub same : given ≡ None → new ≡ old

-- the place of the first tie: the first one where a helper was added, else that of the new variable
abbrev pub first_of : {V : Type 0} → Option V → ℕ → ℕ
first_of None count = count
first_of (Some v) count = 0

-- the place that a tie is of: from the first on one after another, up to the last
abbrev pub place_from : ℕ → ℕ → ℕ → ℕ
place_from first last i = min (first + i) last

-- the two variables represent a solvable and a digit of the package, one of 32, and the value is that of the place's digit
pub record IsTie {N S : Type 0} (name : N) (atoms : List (ProofAtom N S)) (place : ℕ) (tie : VariableId × VariableId × Bool) : Type 0 where
  pub solvable : S
  pub bit : ℕ
  pub few : bit < 32
  pub present : Represents atoms tie.0 (Solvable solvable)
  pub is_bit : Represents atoms tie.1 (Bit name bit)
  pub value : tie.2 ≡ digit place bit

-- each is a tie, of the places from the first on up to the last
abbrev pub AreTies : {N S : Type 0} → N → List (ProofAtom N S) → ℕ → ℕ → List (VariableId × VariableId × Bool) → Type 0
AreTies name atoms first last ties = (i : ℕ) (tie : VariableId × VariableId × Bool) → slice_get ties i ≡ Some tie → IsTie name atoms (place_from first last i) tie

-- the variables represent the digits of the package in order, from the lowest on
abbrev pub AreDigits : {N S : Type 0} → N → List (ProofAtom N S) → List VariableId → Type 0
AreDigits name atoms vs = (i : ℕ) (v : VariableId) → slice_get vs i ≡ Some v → Represents atoms v (Bit name i)

-- the clause of this number encodes the tie
pub record IsTieClause {N S : Type 0} (name : N) (place : ℕ) (tie : VariableId × VariableId × Bool) (c : SolverState N S) (n : ℕ) : Type 0 where
  pub is : IsTie name c.atoms.keys place tie
  pub kinds : kind_at c.kinds.items n ≡ Some (Digit name is.solvable place is.bit)
  pub clause : clause_at (clauses_of c.search) n ≡ no tie.0 ∷ (let l : Signed = record { variable = tie.1; positive = tie.2 } in l) ∷ []

-- the tie was added as a clause
pub record AddsTie {N S : Type 0} (name : N) (place : ℕ) (tie : VariableId × VariableId × Bool) (old new : SolverState N S) : Type 0 where
  pub coding : IsCoding new
  pub grows : Grows old new
  pub trail : SameTrail old new
  pub atoms : new.atoms ≡ old.atoms
  pub added_rule : IsTieClause name place tie new (length old.search.clauses)
  pub one : length new.search.clauses ≡ length old.search.clauses + 1

-- each tie was added as a clause of its own, and nothing else was
pub record AddsTies {N S : Type 0} (name : N) (ties : List (VariableId × VariableId × Bool)) (first last : ℕ) (old new : SolverState N S) : Type 0 where
  pub coding : IsCoding new
  pub grows : Grows old new
  pub trail : SameTrail old new
  pub atoms : new.atoms ≡ old.atoms
  pub each : (i : ℕ) (tie : VariableId × VariableId × Bool) → slice_get ties i ≡ Some tie → (n : ℕ) × (n < length new.search.clauses) × IsTieClause name (place_from first last i) tie new n
  pub only : (n : ℕ) → length old.search.clauses ≤ n → n < length new.search.clauses → (i : ℕ) × (tie : VariableId × VariableId × Bool) × (slice_get ties i ≡ Some tie) × IsTieClause name (place_from first last i) tie new n
  pub count : length new.search.clauses ≡ length old.search.clauses + length ties
  pub same : ties ≡ [] → new ≡ old

-- The variable is tracked, behind the others, and no other one was added. Each new clause ties a tracked one to a digit,
-- by its place.
pub record Tracks {N S : Type 0} (name : N) (v : VariableId) (t : Tracking VariableId) (old : SolverState N S) (u : Tracking VariableId) (new : SolverState N S) : Type 0 where
  pub coding : IsCoding new
  pub grows : Grows old new
  pub trail : SameTrail old new
  pub tied : IsTied name u new
  pub tracked : Contains u.variables v
  pub prefix : IsPrefixOf t.variables u.variables
  pub only : (w : VariableId) → Contains u.variables w → Contains t.variables w ⊎ (w ≡ v)
  pub digits : (n : ℕ) → length old.search.clauses ≤ n → n < length new.search.clauses → (place : ℕ) × (tie : VariableId × VariableId × Bool) × (slice_get u.variables place ≡ Some tie.0) × IsTieClause name place tie new n
  pub same : Contains t.variables v → new ≡ old
