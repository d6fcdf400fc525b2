-- One pass over clauses: deny a clause, and read other clauses once each, in order.
-- The atoms are of any type with a test `same`. What is known in a pass is a function from atoms to their values.
use Rattle.std.specs.Prelude.{◌≡◌, Bool, true, false, not, ◌&&◌, ◌||◌, if◌then◌else◌, List, [], ◌∷◌, filter, Option, Some, None, is_none}
use Rattle.std.specs.List.{list_any, list_all}
use Rattle.std.specs.Bool.{beq}

-- an atom, or not it
pub record Literal (A : Type 0) : Type 0 where
  pub atom : A
  pub positive : Bool

-- a clause without its false literals: empty, one literal (perhaps repeated), or more
pub data Rest (A : Type 0) : Type 0 where
  broken : Rest A
  last : Literal A → Rest A
  more : Rest A

abbrev pub negate : {A : Type 0} → Literal A → Literal A
negate l = record { atom = l.atom; positive = not l.positive }

-- the literal is true where its atom has the value
abbrev pub is_true_at : {A : Type 0} → (A → Bool) → Literal A → Bool
is_true_at value l = beq (value l.atom) l.positive

-- a literal of the clause is true
abbrev pub clause_true : {A : Type 0} → (A → Bool) → List (Literal A) → Bool
clause_true value clause = list_any (is_true_at value) clause

-- under this value of its atom, a literal of this sign is false
abbrev pub is_denied : Option Bool → Bool → Bool
is_denied None positive = false
is_denied (Some value) positive = not (beq value positive)

abbrev pub is_broken : {A : Type 0} → Rest A → Bool
is_broken broken = true
is_broken (last l) = false
is_broken more = false

abbrev pub without_false : {A : Type 0} → (A → Option Bool) → List (Literal A) → List (Literal A)
without_false known clause = filter (λ l. not (is_denied (known l.atom) l.positive)) clause

-- nothing is known at first
abbrev pub nothing : {A : Type 0} → A → Option Bool
nothing a = None

module _ {A : Type 0} (same : A → A → Bool) where
  abbrev pub same_literal : Literal A → Literal A → Bool
  same_literal l m = same l.atom m.atom && beq l.positive m.positive

  -- the clause holds the literal
  abbrev pub has : List (Literal A) → Literal A → Bool
  has clause l = list_any (λ x. same_literal x l) clause

  -- the values after this literal is made true
  abbrev pub assign : (A → Option Bool) → Literal A → A → Option Bool
  assign known l a = if same a l.atom then Some l.positive else known a

  -- the values after each literal of the clause is made false
  abbrev pub deny : (A → Option Bool) → List (Literal A) → A → Option Bool
  deny known [] = known
  deny known (l ∷ ls) = deny (assign known (negate l)) ls

  -- a literal that is named twice is one
  abbrev pub rest_of : List (Literal A) → Rest A
  rest_of [] = broken
  rest_of (l ∷ ls) = if list_all (same_literal l) ls then last l else more

  abbrev pub reading : (A → Option Bool) → List (Literal A) → Rest A
  reading known clause = rest_of (without_false known clause)

  -- a single literal that isn't false, and has no value, is made true
  abbrev pub learn : (A → Option Bool) → Rest A → A → Option Bool
  learn known broken = known
  learn known (last l) = if is_none (known l.atom) then assign known l else known
  learn known more = known

  -- one of the clauses, read in order, is broken
  abbrev pub refutes : (A → Option Bool) → List (List (Literal A)) → Bool
  refutes known [] = false
  refutes known (clause ∷ clauses) = is_broken (reading known clause) || refutes (learn known (reading known clause)) clauses

  -- the pass over these clauses refutes the denied clause
  abbrev pub one_pass : List (Literal A) → List (List (Literal A)) → Bool
  one_pass clause causes = refutes (deny nothing clause) causes

  -- each literal of the clause is false under the values
  abbrev pub IsFalseUnder : (A → Option Bool) → List (Literal A) → Type 0
  IsFalseUnder known clause = (l : Literal A) → has clause l ≡ true → is_denied (known l.atom) l.positive ≡ true

  -- the pass over the causes refutes from whatever is known, if it makes the clause false
  abbrev pub RefutesFrom : List (Literal A) → List (List (Literal A)) → Type 0
  RefutesFrom clause causes = (known : A → Option Bool) → IsFalseUnder known clause → refutes known causes ≡ true

  -- no literal and its negation are both in the clause
  abbrev pub HasNoOpposites : List (Literal A) → Type 0
  HasNoOpposites clause = (l : Literal A) → has clause l ≡ true → has clause (negate l) ≡ false

-- the literals have these names, with their signs, in order
abbrev pub AreNamed : {A B : Type 0} → (A → B → Type 0) → List (Literal A) → List (Literal B) → Type 0
AreNamed names [] [] = Unit {0}
AreNamed names [] (m ∷ ms) = ⊥
AreNamed names (l ∷ ls) [] = ⊥
AreNamed names (l ∷ ls) (m ∷ ms) = names l.atom m.atom × (m.positive ≡ l.positive) × AreNamed names ls ms

-- the same for the literals of each clause
abbrev pub AreNamedClauses : {A B : Type 0} → (A → B → Type 0) → List (List (Literal A)) → List (List (Literal B)) → Type 0
AreNamedClauses names [] [] = Unit {0}
AreNamedClauses names [] (d ∷ ds) = ⊥
AreNamedClauses names (c ∷ cs) [] = ⊥
AreNamedClauses names (c ∷ cs) (d ∷ ds) = AreNamed names c d × AreNamedClauses names cs ds
