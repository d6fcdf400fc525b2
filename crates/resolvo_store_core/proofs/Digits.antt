-- Lemmas on binary digits.
use Rattle.std.proofs.Common.{◌≡◌, ℕ, zero, suc, ◌*◌, ◌/◌, ◌%◌, ◌^◌, ◌<◌, ◌==◌, Bool, true, false, refl, sym, ◌∙◌, ap, arith, eqb-true, eq-eqb}
use Rattle.std.proofs.Math.Nat.{pow-suc}
use Rattle.std.proofs.lemmas.Bool.{both_ways}
use Rattle.resolvo_store_core.specs.AtMostOne.{digit}

twice : (h : ℕ) → 2 ^ suc h ≡ 2 ^ h * 2
twice h = pow-suc 2 h

-- a number below the power has no digit there
pub digit_below : (h k : ℕ) → k < 2 ^ h → digit k h ≡ false
digit_below zero k b =
    let one : 2 ^ zero ≡ 1 = refl in
    let z : k ≡ 0 = omega arith in
    ap (λ n. n % 2 == 1) z
digit_below (suc h) k b = let t : 2 ^ suc h ≡ 2 ^ h * 2 = twice h in digit_below h (k / 2) (omega arith)

pub digit_power : (h : ℕ) → digit (2 ^ h) h ≡ true
digit_power zero = refl
digit_power (suc h) =
    let t : 2 ^ suc h ≡ 2 ^ h * 2 = twice h in
    let e : 2 ^ suc h / 2 ≡ 2 ^ h = omega arith in
    ap (λ n. digit n h) e ∙ digit_power h

same_rest : (j k : ℕ) → (j % 2 == 1) ≡ (k % 2 == 1) → j % 2 ≡ k % 2
same_rest j k e = go (j % 2 == 1) (k % 2 == 1) refl refl e
  where
    go : (a b : Bool) → (j % 2 == 1) ≡ a → (k % 2 == 1) ≡ b → a ≡ b → j % 2 ≡ k % 2
    go true true p q r = eqb-true (j % 2) 1 p ∙ sym (eqb-true (k % 2) 1 q)
    go false false p q r =
        let x : j % 2 ≡ 1 → ⊥ = λ h. both_ways (j % 2 == 1) p (eq-eqb (j % 2) 1 h) in
        let y : k % 2 ≡ 1 → ⊥ = λ h. both_ways (k % 2 == 1) q (eq-eqb (k % 2) 1 h) in
        omega arith
    go true false p q r = absurd cc
    go false true p q r = absurd cc

-- numbers with the same digits are one
pub same_digits : (h j k : ℕ) → j < 2 ^ h → k < 2 ^ h → ((i : ℕ) → i < h → digit j i ≡ digit k i) → j ≡ k
same_digits zero j k a b same = let one : 2 ^ zero ≡ 1 = refl in omega arith
same_digits (suc h) j k a b same =
    let t : 2 ^ suc h ≡ 2 ^ h * 2 = twice h in
    let half : j / 2 ≡ k / 2 = same_digits h (j / 2) (k / 2) (omega arith) (omega arith) (λ i l. same (suc i) (omega arith)) in
    let rest : j % 2 ≡ k % 2 = same_rest j k (same 0 (omega arith)) in
    omega arith
