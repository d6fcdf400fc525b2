-- The marks of clauses: bits in the words of their blocks.
use Rattle.std.proofs.Common.{◌≡◌, ℕ, zero, suc, ◌+◌, ◌-◌, ◌*◌, ◌/◌, ◌%◌, ◌^◌, ◌<◌, ◌≤◌, ◌⊎◌, inl, inr, false, List, [], ◌∷◌, ◌++◌, length, length-set, refl, sym, ◌∙◌, ap, subst, arith, w64, shr-shr, div-le_self}
use Rattle.std.specs.Prelude.{slice_set, slice_index_or, bit_and, bit_or}
use Rattle.std.specs.Int.{bit_at, bit_not, trailing_zeros}
use Rattle.std.proofs.lemmas.Bool.{cases_lt, cases_eq}
use Rattle.std.proofs.lemmas.Nat.Bits.{bit_at-zero, bit_at_and, bit_at-trailing_zeros, bit_at_above, bit_at_ones, bit_at_set_same, bit_at_set_other, bit_at_clear_other}
use Rattle.resolvo_decide.specs.declared.clause_states.ClauseState.{ClauseState}
use Rattle.resolvo_decide.specs.States.{state_at, is_open_state, word_at, bit_of, AreMarked}
use Rattle.resolvo_decide.proofs.Positions.{state_set, state_set_other}

pub word_out : (ms : List ℕ) (k : ℕ) → length ms ≤ k → word_at ms k ≡ 18446744073709551615
word_out [] k h = refl
word_out (m ∷ ms) zero h = absurd (omega arith)
word_out (m ∷ ms) (suc k) h = word_out ms k (omega arith)

word_read : (ms : List ℕ) (k : ℕ) → k < length ms → word_at ms k ≡ slice_index_or ms k 0
word_read [] k h = absurd (omega arith)
word_read (m ∷ ms) zero h = refl
word_read (m ∷ ms) (suc k) h = word_read ms k (omega arith)

word_set : (ms : List ℕ) (k m : ℕ) → k < length ms → word_at (slice_set ms k m) k ≡ m
word_set [] k m h = absurd (omega arith)
word_set (x ∷ ms) zero m h = refl
word_set (x ∷ ms) (suc k) m h = word_set ms k m (omega arith)

word_set_other : (ms : List ℕ) (k m j : ℕ) → (word_at (slice_set ms k m) j ≡ word_at ms j) ⊎ (j ≡ k)
word_set_other [] k m j = inl refl
word_set_other (x ∷ ms) zero m zero = inr refl
word_set_other (x ∷ ms) zero m (suc j) = inl refl
word_set_other (x ∷ ms) (suc k) m zero = inl refl
word_set_other (x ∷ ms) (suc k) m (suc j) = elim (word_set_other ms k m j) [ inl same ↦ inl same | inr is ↦ inr (ap suc is) ]

word_end : (ms : List ℕ) (k : ℕ) → word_at (ms ++ 18446744073709551615 ∷ []) k ≡ word_at ms k
word_end [] zero = refl
word_end [] (suc k) = refl
word_end (m ∷ ms) zero = refl
word_end (m ∷ ms) (suc k) = word_end ms k

-- a word whose bits are all set marks nothing new
pub bit_end : (ms : List ℕ) (i : ℕ) → bit_of (ms ++ 18446744073709551615 ∷ []) i ≡ bit_of ms i
unfolding bit_of
bit_end ms i = ap (λ w. bit_at w (i % 64)) (word_end ms (i / 64))

-- past the end each clause is marked
pub bit_out : (ms : List ℕ) (i : ℕ) → length ms ≤ i / 64 → bit_of ms i ≡ 1
unfolding bit_of
bit_out ms i h = ap (λ w. bit_at w (i % 64)) (word_out ms (i / 64) h) ∙ bit_at_ones 64 (i % 64) (omega arith)

module _ (ms : List ℕ) (i : ℕ) (low : i / 64 < length ms) where
  abbrev k : ℕ
  k = i / 64

  abbrev m : ℕ
  m = slice_index_or ms k 0

  -- the bit of a clause in the list whose word of the block is another one
  module _ (s j : ℕ) (none : bit_at (word_at (slice_set ms k s) (j / 64)) (j % 64) ≡ 0) where
    elsewhere : word_at (slice_set ms k s) (j / 64) ≡ word_at ms (j / 64) → bit_at (word_at ms (j / 64)) (j % 64) ≡ 0
    elsewhere same = ap (λ w. bit_at w (j % 64)) (sym same) ∙ none

    there : j / 64 ≡ k → bit_at s (j % 64) ≡ 0
    there at = sym (ap (λ b. bit_at (word_at (slice_set ms k s) b) (j % 64)) at ∙ ap (λ w. bit_at w (j % 64)) (word_set ms k s low)) ∙ none

    was : j / 64 ≡ k → bit_at s (j % 64) ≡ bit_at m (j % 64) → bit_at (word_at ms (j / 64)) (j % 64) ≡ 0
    was at kept = ap (λ b. bit_at (word_at ms b) (j % 64)) at ∙ ap (λ w. bit_at w (j % 64)) (word_read ms k low) ∙ sym kept ∙ there at

  abbrev set : ℕ
  set = bit_or m (1 * 2 ^ (i % 64) % 2 ^ 64)

  one : bit_at set (i % 64) ≡ 1
  one = bit_at_set_same w64 m (i % 64) (omega arith)

  pub bit_set : bit_of (slice_set ms (i / 64) (bit_or (slice_index_or ms (i / 64) 0) (1 * 2 ^ (i % 64) % 2 ^ 64))) i ≡ 1
  unfolding bit_of
  bit_set = ap (λ w. bit_at w (i % 64)) (word_set ms k set low) ∙ one

  pub bit_set_others : (j : ℕ) → bit_of (slice_set ms (i / 64) (bit_or (slice_index_or ms (i / 64) 0) (1 * 2 ^ (i % 64) % 2 ^ 64))) j ≡ 0 → bit_of ms j ≡ 0
  unfolding bit_of
  bit_set_others j none = elim (word_set_other ms k set (j / 64)) [
    | inl same ↦ elsewhere set j none same
    | inr at ↦ elim (cases_eq (j % 64) (i % 64)) [
      | inl here ↦ absurd (let both : bit_at set (j % 64) ≡ bit_at set (i % 64) = ap (bit_at set) here in omega (arith, both, one, there set j none at))
      | inr far ↦ was set j none at (bit_at_set_other w64 m (i % 64) (omega arith) (j % 64) far)
    ]
  ]

  abbrev cleared : ℕ
  cleared = bit_and m (bit_not w64 (1 * 2 ^ (i % 64) % 2 ^ 64))

  pub bit_clear : (j : ℕ) → bit_of (slice_set ms (i / 64) (bit_and (slice_index_or ms (i / 64) 0) (bit_not w64 (1 * 2 ^ (i % 64) % 2 ^ 64)))) j ≡ 0 → (bit_of ms j ≡ 0) ⊎ (j ≡ i)
  unfolding bit_of
  bit_clear j none = elim (word_set_other ms k cleared (j / 64)) [
    | inl same ↦ inl (elsewhere cleared j none same)
    | inr at ↦ elim (cases_eq (j % 64) (i % 64)) [
      | inl here ↦ inr (omega (arith, at, here))
      | inr far ↦ inl (was cleared j none at (bit_at_clear_other w64 m (i % 64) (omega arith) (j % 64) (omega arith) far))
    ]
  ]

-- ---- the bits of a word from a place on

module _ (w k : ℕ) where
  shifted : (i : ℕ) → bit_at (w / 2 ^ k) i ≡ bit_at w (k + i)
  shifted i = ap (λ x. x % 2) (shr-shr w k i)

  behind : (j : ℕ) → k ≤ j → bit_at w j ≡ bit_at (w / 2 ^ k) (j - k)
  behind j above = let is : j ≡ k + (j - k) = omega arith in ap (bit_at w) is ∙ sym (shifted (j - k))

  pub none_left : w / 2 ^ k ≡ 0 → (j : ℕ) → k ≤ j → bit_at w j ≡ 0
  none_left none j above = behind j above ∙ ap (λ x. bit_at x (j - k)) none ∙ bit_at-zero (j - k)

  pub first_left : w < 2 ^ 64 → 0 < w / 2 ^ k → (k + trailing_zeros w64 (w / 2 ^ k) ≤ 64) × ((j : ℕ) → k ≤ j → j < k + trailing_zeros w64 (w / 2 ^ k) → bit_at w j ≡ 0)
  first_left small some =
      let r : ℕ = w / 2 ^ k in
      let t : ℕ = trailing_zeros w64 r in
      let less : r ≤ w = div-le_self w (2 ^ k) in
      let lowest = bit_at-trailing_zeros w64 r some (omega (arith, less, small)) in (
        elim (cases_lt (k + t) 64) [
          | inl below ↦ omega arith
          | inr past ↦ absurd (let one : bit_at w (k + t) ≡ 1 = sym (shifted t) ∙ lowest.1 in let no : bit_at w (k + t) ≡ 0 = bit_at_above w 64 (k + t) small past in omega (arith, one, no))
        ],
        λ j above below. behind j above ∙ lowest.2 (j - k) (omega (arith, above, below)),
      )

-- ---- the marks of a range, in two words

and_none : (a b i : ℕ) → bit_at (bit_and a b) i ≡ 0 → (bit_at a i ≡ 0) ⊎ (bit_at b i ≡ 0)
and_none a b i none =
    let both = bit_at_and a b i in
    elim (cases_eq (bit_at a i) 0) [ inl is ↦ inl is | inr some ↦ elim (cases_eq (bit_at b i) 0) [ inl is ↦ inr is | inr more ↦ absurd (omega (arith, both, none, some, more)) ] ]

-- within one word
pub in_both : (ms ws : List ℕ) (k lo hi i : ℕ) → ((j : ℕ) → lo ≤ j → j < hi → bit_at (bit_and (word_at ms k) (word_at ws k)) j ≡ 0) → hi ≤ 64 → k * 64 + lo ≤ i → i < k * 64 + hi → (bit_of ms i ≡ 0) ⊎ (bit_of ws i ≡ 0)
unfolding bit_of
in_both ms ws k lo hi i none small above below =
    let at : i / 64 ≡ k = omega arith in
    and_none (word_at ms (i / 64)) (word_at ws (i / 64)) (i % 64) (ap (λ b. bit_at (bit_and (word_at ms b) (word_at ws b)) (i % 64)) at ∙ none (i % 64) (omega arith) (omega arith))

-- over words without such a bit
pub in_both_words : (ms ws : List ℕ) (from to i : ℕ) → ((k : ℕ) → from ≤ k → k < to → bit_and (word_at ms k) (word_at ws k) ≡ 0) → from * 64 ≤ i → i < to * 64 → (bit_of ms i ≡ 0) ⊎ (bit_of ws i ≡ 0)
unfolding bit_of
in_both_words ms ws from to i none above below = and_none (word_at ms (i / 64)) (word_at ws (i / 64)) (i % 64) (ap (λ w. bit_at w (i % 64)) (none (i / 64) (omega arith) (omega arith)) ∙ bit_at-zero (i % 64))

-- ---- the states of marked clauses

-- one clause has another state, and a mark if it is open
pub marked_put : (ss more : List ClauseState) (p : ℕ) (s : ClauseState) (old new : List ℕ) → more ≡ slice_set ss p s → ((i : ℕ) → bit_of new i ≡ 0 → bit_of old i ≡ 0)
    → (is_open_state s ≡ false) ⊎ (bit_of new p ≡ 1) → AreMarked ss old → AreMarked more new
marked_put ss more p s old new put others here marked i below none = ap (λ (xs : List ClauseState). is_open_state (state_at xs i)) put ∙ elim (state_set_other ss p s i) [
  | inl same ↦ ap is_open_state same ∙ marked i low (others i none)
  | inr at ↦ elim here [
    | inl shut ↦ ap (λ j. is_open_state (state_at (slice_set ss p s) j)) at ∙ ap is_open_state (state_set ss p s (subst (λ j. j < length ss) at low)) ∙ shut
    | inr one ↦ absurd (let other : bit_of new p ≡ 0 = sym (ap (bit_of new) at) ∙ none in omega (arith, one, other))
  ]
]
  where
    low : i < length ss
    low = subst (λ n. i < n) (ap length put ∙ length-set ss p s) below
