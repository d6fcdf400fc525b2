-- The first space of a text.
use Rattle.std.proofs.Common.{◌≡◌, ◌<◌, ◌≤◌, ◌+◌, ℕ, false, List, length, get_or, Some, None, refl, sym, subst, arith, inl, inr}
use Rattle.std.specs.List.{position, position_or_len}
use Rattle.std.proofs.lemmas.Bool.{cases_lt, lt-ltb, le-ltb, ne_eqb}
use Rattle.std.proofs.lemmas.List.Sums.{position_or_len_is}
use Rattle.resolvo_text.specs.Parse.{is_space, NoSpaceBefore}

pub first_space : (text : List ℕ) (at : ℕ) → NoSpaceBefore text at → at < length text → get_or text at 0 ≡ 32 → Some at ≡ position is_space text
first_space text at before within is =
    let n : position_or_len is_space text ≡ at = position_or_len_is is_space text at 0 (omega (arith, within)) before (λ lt. rw is refl) in
    sym (rw (n, lt-ltb at (length text) within) refl)

pub no_space : (text : List ℕ) (at : ℕ) → NoSpaceBefore text at → length text ≤ at → None ≡ position is_space text
no_space text at before past =
    let n : position_or_len is_space text ≡ length text = position_or_len_is is_space text (length text) 0 (omega arith) (λ k lt. before k (omega (arith, lt, past))) (λ lt. absurd (omega (arith, lt))) in
    sym (rw (n, le-ltb (length text) (length text) (omega arith)) refl)

-- one byte more that is no space
pub one_more : (text : List ℕ) (at : ℕ) → NoSpaceBefore text at → (get_or text at 0 ≡ 32 → ⊥) → NoSpaceBefore text (at + 1)
one_more text at before other k less = elim (cases_lt k at) [
  | inl l ↦ before k l
  | inr past ↦ let is : at ≡ k = omega (arith, less, past) in subst (λ (n : ℕ). is_space (get_or text n 0) ≡ false) is (ne_eqb (get_or text at 0) 32 other)
]

pub two_more : (text : List ℕ) (at : ℕ) → NoSpaceBefore text at → (get_or text at 0 ≡ 32 → ⊥) → (get_or text (at + 1) 0 ≡ 32 → ⊥) → NoSpaceBefore text (at + 2)
two_more text at before a b =
    let two : at + 1 + 1 ≡ at + 2 = omega arith in
    subst (λ (n : ℕ). NoSpaceBefore text n) two (one_more text (at + 1) (one_more text at before a) b)

pub three_more : (text : List ℕ) (at : ℕ) → NoSpaceBefore text at → (get_or text at 0 ≡ 32 → ⊥) → (get_or text (at + 1) 0 ≡ 32 → ⊥) → (get_or text (at + 2) 0 ≡ 32 → ⊥) → NoSpaceBefore text (at + 3)
three_more text at before a b d =
    let three : at + 2 + 1 ≡ at + 3 = omega arith in
    subst (λ (n : ℕ). NoSpaceBefore text n) three (one_more text (at + 2) (two_more text at before a b) d)
