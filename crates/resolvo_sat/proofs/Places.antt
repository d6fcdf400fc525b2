-- Different places below a power of two differ in a digit.
use Rattle.std.proofs.Common.{◌≡◌, ℕ, zero, suc, ◌/◌, ◌^◌, ◌<◌, ◌⊎◌, inl, inr, Bool, true, false, not, refl, arith}
use Rattle.resolvo_store_core.specs.AtMostOne.{digit}
use Rattle.resolvo_store_core.proofs.Digits.{same_digits}

same_or_not : (a b : Bool) → (a ≡ b) ⊎ (a ≡ not b)
same_or_not true true = inl refl
same_or_not true false = inr refl
same_or_not false true = inr refl
same_or_not false false = inl refl

-- the lowest digits are the same, or one of them differs
first_digits : (h j k : ℕ) → ((i : ℕ) → i < h → digit j i ≡ digit k i) ⊎ ((i : ℕ) × (i < h) × (digit j i ≡ not (digit k i)))
first_digits zero j k = inl (λ i l. absurd (omega arith))
first_digits (suc h) j k = elim (same_or_not (digit j zero) (digit k zero)) [
  | inr e ↦ inr (zero, omega arith, e)
  | inl e ↦ elim (first_digits h (j / 2) (k / 2)) [
    | inr (i, l, d) ↦ inr (suc i, omega arith, d)
    | inl f ↦ inl (all e f)
  ]
]
  where
    all : digit j zero ≡ digit k zero → ((i : ℕ) → i < h → digit (j / 2) i ≡ digit (k / 2) i) → (i : ℕ) → i < suc h → digit j i ≡ digit k i
    all e f zero l = e
    all e f (suc i) l = f i (omega arith)

pub differ_in_digit : (h j k : ℕ) → j < 2 ^ h → k < 2 ^ h → (j ≡ k) ⊎ ((i : ℕ) × (i < h) × (digit j i ≡ not (digit k i)))
differ_in_digit h j k a b = elim (first_digits h j k) [ inl f ↦ inl (same_digits h j k a b f) | inr d ↦ inr d ]
