-- At most one of some variables is true, encoded by the binary digits of their places.
use Rattle.std.specs.Prelude.{◌≡◌, ℕ, zero, suc, ◌+◌, ◌/◌, ◌%◌, ◌^◌, ◌<◌, ◌≤◌, ◌==◌, ◌&&◌, Bool, true, false, not, cond, List, [], ◌∷◌, ◌++◌, map, length, slice_index_or, Option, Some, None}
use Rattle.std.specs.Option.{option_to_list}
use Rattle.std.specs.List.{list_any}

-- the tracked variables, and their helpers from the lowest digit on
pub record Tracking (V : Type 0) : Type 0 where
  pub variables : List V
  pub helpers : List V

-- the least number of digits that distinguish n places
abbrev pub IsLeastCount : ℕ → ℕ → Type 0
IsLeastCount h n = (n ≤ 2 ^ h) × ((j : ℕ) → n ≤ 2 ^ j → h ≤ j)

-- the binary digit of k at a place, from the lowest on
abbrev pub digit : ℕ → ℕ → Bool
digit k zero = k % 2 == 1
digit k (suc i) = digit (k / 2) i

-- the clauses of the k-th variable: where it is true, each helper has the value of its digit
abbrev pub ties : {V : Type 0} → ℕ → V → List V → List (V × V × Bool)
ties k x [] = []
ties k x (v ∷ vs) = (x, v, k % 2 == 1) ∷ ties (k / 2) x vs

-- the clauses of all variables, from the k-th on
abbrev pub ties_from : {V : Type 0} → ℕ → List V → List V → List (V × V × Bool)
ties_from k [] vs = []
ties_from k (x ∷ xs) vs = ties k x vs ++ ties_from (k + 1) xs vs

abbrev pub all_ties : {V : Type 0} → Tracking V → List (V × V × Bool)
all_ties t = ties_from 0 t.variables t.helpers

-- the clauses that a new variable brings, and those of the others with its new helper
abbrev pub tie_all : {V : Type 0} → List V → List V → V → Option V → List (V × V × Bool)
tie_all xs vs x None = ties (length xs) x vs
tie_all xs vs x (Some v) = map (λ y. (y, v, false)) xs ++ (ties (length xs) x vs ++ (x, v, true) ∷ [])

module _ {V : Type 0} (eq : V → V → Bool) where
  -- the variable is tracked
  abbrev pub among : Tracking V → V → Bool
  among t x = list_any (eq x) t.variables

  -- the variable is new, and the helpers distinguish no more places
  abbrev pub needs_helper : Tracking V → V → Bool
  needs_helper t x = not (among t x) && (length t.variables == 2 ^ length t.helpers)

  -- the variable was added, unless it was tracked
  abbrev pub tracked : Tracking V → V → Option V → Tracking V
  tracked t x v = cond (among t x) t (record { variables = t.variables ++ x ∷ []; helpers = t.helpers ++ option_to_list v })

  -- the clauses that adding the variable brings
  abbrev pub new_ties : Tracking V → V → Option V → List (V × V × Bool)
  new_ties t x v = cond (among t x) [] (tie_all t.variables t.helpers x v)

-- the one list begins the other
abbrev pub IsPrefixOf : {X : Type 0} → List X → List X → Type 0
IsPrefixOf {X} xs ys = (zs : List X) × (ys ≡ xs ++ zs)

-- under values of the variables and of the helpers, each clause is met: where the k-th variable is true, the helper at i has the digit of k there
abbrev pub IsMet : {V : Type 0} → (V → Bool) → (ℕ → Bool) → Tracking V → Type 0
IsMet {V} value helper t = (k i : ℕ) (d : V) → k < length t.variables → i < length t.helpers → value (slice_index_or t.variables k d) ≡ true → helper i ≡ digit k i

-- at most one of the variables is true, as their places differ in some digit
abbrev pub IsAtMostOne : {V : Type 0} → (V → Bool) → List V → Type 0
IsAtMostOne {V} value xs = (j k : ℕ) (d : V) → j < length xs → k < length xs → value (slice_index_or xs j d) ≡ true → value (slice_index_or xs k d) ≡ true → j ≡ k
