-- Clauses under known literals, and under values of the variables.
use Rattle.std.specs.Prelude.{◌≡◌, ℕ, zero, suc, ◌⊎◌, Bool, true, false, List, [], ◌∷◌}
use Rattle.std.proofs.Math.Bool.{beq}
use Rattle.resolvo_store_core.specs.Signed.{Signed, negation, has}

-- each literal of the clause is false where the known literals are true
abbrev pub IsFalseUnder : List Signed → List Signed → Type 0
IsFalseUnder known clause = (l : Signed) → has clause l ≡ true → has known (negation l) ≡ true

-- neither the literal nor its negation is known
pub record IsUndecided (known : List Signed) (l : Signed) : Type 0 where
  pub not_true : has known l ≡ false
  pub not_false : has known (negation l) ≡ false

-- the literal's value under values of the variables
abbrev pub holds : (ℕ → Bool) → Signed → Bool
holds v l = beq (v l.variable.0) l.positive

-- some literal of the clause is true
abbrev pub Satisfies : (ℕ → Bool) → List Signed → Type 0
Satisfies v clause = (l : Signed) × (has clause l ≡ true) × (holds v l ≡ true)

-- each clause is true
abbrev pub SatisfiesAll : (ℕ → Bool) → List (List Signed) → Type 0
SatisfiesAll v [] = Unit {0}
SatisfiesAll v (c ∷ cs) = Satisfies v c × SatisfiesAll v cs

-- the clause of this place, or none
abbrev pub clause_at : List (List Signed) → ℕ → List Signed
clause_at [] n = []
clause_at (c ∷ cs) zero = c
clause_at (c ∷ cs) (suc n) = clause_at cs n

-- the clause holds the literal, and its others are false
pub record IsForced (clause : List Signed) (l : Signed) (known : List Signed) : Type 0 where
  pub present : has clause l ≡ true
  pub others : (m : Signed) → has clause m ≡ true → (m ≡ l) ⊎ (has known (negation m) ≡ true)

-- the clause makes this literal true
pub record Forces (known clause : List Signed) (l : Signed) : Type 0 where
  pub forced : IsForced clause l known
  pub undecided : IsUndecided known l
