-- Bytes are known by numbers of four or eight of them.
use Rattle.std.proofs.Common.{◌≡◌, ◌<◌, ◌≤◌, ◌+◌, ◌*◌, ◌∙◌, ℕ, true, false, List, length, get_or, sym, ap, subst, arith, inl, inr}
use Rattle.std.specs.Prelude.{nat_eq}
use Rattle.std.specs.Str.{bytes_eq}
use Rattle.std.proofs.lemmas.Bool.{cases_Bool, cases_lt}
use Rattle.std.proofs.lemmas.Bool.Decides.{eqb_tells}
use Rattle.std.proofs.lemmas.Grind.{same_number_lists}
use Rattle.std.proofs.lemmas.Slice.Eq.{bytes_eq-Decides}
use Rattle.resolvo_terms.specs.Hash.{eight_at, four_at}

-- Two numbers of two digits each.
low_same : (a b c d : ℕ) → a < 256 → c < 256 → a + b * 256 ≡ c + d * 256 → (a ≡ c) × (b ≡ d)
low_same a b c d x y e = (omega (arith, x, y, e), omega (arith, x, y, e))

pair_same : (a b c d : ℕ) → a < 65536 → c < 65536 → a + b * 65536 ≡ c + d * 65536 → (a ≡ c) × (b ≡ d)
pair_same a b c d x y e = (omega (arith, x, y, e), omega (arith, x, y, e))

four_parts : (a b c d : ℕ) → a < 4294967296 → c < 4294967296 → a + b * 4294967296 ≡ c + d * 4294967296 → (a ≡ c) × (b ≡ d)
four_parts a b c d x y e = (omega (arith, x, y, e), omega (arith, x, y, e))

abbrev pub AreBytes : List ℕ → Type 0
AreBytes xs = (i : ℕ) → get_or xs i 0 < 256

-- The bytes before a place are the same.
abbrev pub AreSameTo : List ℕ → List ℕ → ℕ → Type 0
AreSameTo xs ys n = (k : ℕ) → k < n → get_or xs k 0 ≡ get_or ys k 0

module _ (xs ys : List ℕ) (bx : AreBytes xs) (by : AreBytes ys) where
  four_small : (at : ℕ) → four_at xs at < 4294967296
  four_small at = omega (arith, bx at, bx (at + 1), bx (at + 2), bx (at + 3))

  four_other : (at : ℕ) → four_at ys at < 4294967296
  four_other at = omega (arith, by at, by (at + 1), by (at + 2), by (at + 3))

  -- the bytes of four that are the same number
  pub four_same : (at : ℕ) → four_at xs at ≡ four_at ys at → (k : ℕ) → at ≤ k → k < at + 4 → get_or xs k 0 ≡ get_or ys k 0
  four_same at e k low high =
      let halves = pair_same (get_or xs at 0 + get_or xs (at + 1) 0 * 256) (get_or xs (at + 2) 0 + get_or xs (at + 3) 0 * 256) (get_or ys at 0 + get_or ys (at + 1) 0 * 256) (get_or ys (at + 2) 0 + get_or ys (at + 3) 0 * 256)
      (omega (arith, bx at, bx (at + 1))) (omega (arith, by at, by (at + 1))) e in
      let first = low_same (get_or xs at 0) (get_or xs (at + 1) 0) (get_or ys at 0) (get_or ys (at + 1) 0) (bx at) (by at) halves.0 in
      let second = low_same (get_or xs (at + 2) 0) (get_or xs (at + 3) 0) (get_or ys (at + 2) 0) (get_or ys (at + 3) 0) (bx (at + 2)) (by (at + 2)) halves.1 in
      elim (cases_lt k (at + 1)) [
        | inl l ↦ let is : at ≡ k = omega (arith, low, l) in subst (λ (n : ℕ). get_or xs n 0 ≡ get_or ys n 0) is first.0
        | inr past ↦ elim (cases_lt k (at + 2)) [
          | inl l ↦ let is : at + 1 ≡ k = omega (arith, past, l) in subst (λ (n : ℕ). get_or xs n 0 ≡ get_or ys n 0) is first.1
          | inr past ↦ elim (cases_lt k (at + 3)) [
            | inl l ↦ let is : at + 2 ≡ k = omega (arith, past, l) in subst (λ (n : ℕ). get_or xs n 0 ≡ get_or ys n 0) is second.0
            | inr past ↦ let is : at + 3 ≡ k = omega (arith, past, high) in subst (λ (n : ℕ). get_or xs n 0 ≡ get_or ys n 0) is second.1
          ]
        ]
      ]

  pub eight_same : (at : ℕ) → eight_at xs at ≡ eight_at ys at → (k : ℕ) → at ≤ k → k < at + 8 → get_or xs k 0 ≡ get_or ys k 0
  eight_same at e k low high =
      let halves = four_parts (four_at xs at) (four_at xs (at + 4)) (four_at ys at) (four_at ys (at + 4)) (four_small at) (four_other at) e in
      elim (cases_lt k (at + 4)) [
        | inl l ↦ four_same at halves.0 k low l
        | inr past ↦ four_same (at + 4) halves.1 k (omega (arith, past)) (omega (arith, high))
      ]

  -- where all are the same up to the last ones, these decide
  same_by : (n : ℕ) → length ys ≡ length xs → AreSameTo xs ys n → ((k : ℕ) → n ≤ k → k < length xs → get_or xs k 0 ≡ get_or ys k 0) → bytes_eq xs ys ≡ true
  same_by n long before last = (bytes_eq-Decides xs ys).1 (same_number_lists xs ys (sym long) (λ k less. elim (cases_lt k n) [ inl l ↦ before k l | inr past ↦ last k (omega (arith, past)) less ]))

  apart_by : (f : List ℕ → ℕ) → (f xs ≡ f ys → ⊥) → bytes_eq xs ys ≡ false
  apart_by f apart = elim (cases_Bool (bytes_eq xs ys)) [ inl same ↦ absurd (apart (ap f ((bytes_eq-Decides xs ys).0 same))) | inr other ↦ other ]

  pub eights_apart : (at : ℕ) → (eight_at xs at ≡ eight_at ys at → ⊥) → false ≡ bytes_eq xs ys
  eights_apart at apart = sym (apart_by (λ zs. eight_at zs at) apart)

  pub fours_apart : (at : ℕ) → (four_at xs at ≡ four_at ys at → ⊥) → false ≡ bytes_eq xs ys
  fours_apart at apart = sym (apart_by (λ zs. four_at zs at) apart)

  pub eights_decide : (last n : ℕ) → length ys ≡ length xs → last + 8 ≡ length xs → last ≤ n → AreSameTo xs ys n → nat_eq (eight_at xs last) (eight_at ys last) ≡ bytes_eq xs ys
  eights_decide last n long ends covers before = elim (eqb_tells (eight_at xs last) (eight_at ys last)) [
    | inl y ↦ y.0 ∙ sym (same_by n long before (λ k low less. eight_same last y.1 k (omega (arith, covers, low)) (omega (arith, ends, less))))
    | inr y ↦ y.0 ∙ eights_apart last y.1
  ]

  pub fours_decide : (last : ℕ) → length ys ≡ length xs → last + 4 ≡ length xs → last ≤ 4 → four_at xs 0 ≡ four_at ys 0 → nat_eq (four_at xs last) (four_at ys last) ≡ bytes_eq xs ys
  fours_decide last long ends covers first = elim (eqb_tells (four_at xs last) (four_at ys last)) [
    | inl y ↦ y.0 ∙ sym (same_by 4 long (λ k less. four_same 0 first k (omega arith) (omega (arith, less))) (λ k low less. four_same last y.1 k (omega (arith, covers, low)) (omega (arith, ends, less))))
    | inr y ↦ y.0 ∙ fours_apart last y.1
  ]
