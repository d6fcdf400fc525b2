-- Lemmas on the indexes of literals.
use Rattle.std.proofs.Common.{◌≡◌, ℕ, ◌+◌, ◌*◌, ◌/◌, ◌%◌, ◌==◌, Bool, true, false, cond, ◌⊎◌, inl, inr, refl, sym, ◌∙◌, ap, subst, arith, eqb-true, eq-eqb}
use Rattle.std.proofs.lemmas.Bool.{both_ways, and_parts, and_from, cases_Bool}
use Rattle.std.proofs.Math.Bool.{beq}
use Rattle.std.specs.Cmp.{IsEquivalence, nat_eq_equiv}
use Rattle.resolvo_store_core.specs.Signed.{Signed, same_literal, index_in, literal_at}

same_sign_true : (a b : Bool) → beq a b ≡ true → a ≡ b
same_sign_true true true h = refl
same_sign_true false false h = refl
same_sign_true true false h = cc
same_sign_true false true h = cc

same_sign-self : (a : Bool) → beq a a ≡ true
same_sign-self true = refl
same_sign-self false = refl

pub same_literal_true : (a b : Signed) → same_literal a b ≡ true → a ≡ b
same_literal_true a b h =
    let parts = and_parts (a.variable.0 == b.variable.0) (beq a.positive b.positive) h in
    let v : a.variable.0 ≡ b.variable.0 = eqb-true a.variable.0 b.variable.0 parts.0 in
    let s : a.positive ≡ b.positive = same_sign_true a.positive b.positive parts.1 in
    λ i. record { variable = record { 0 = v i }; positive = s i }

pub same_literal-self : (a : Signed) → same_literal a a ≡ true
same_literal-self a = and_from _ _ (eq-eqb a.variable.0 a.variable.0 refl) (same_sign-self a.positive)

pub index_round_trip : (i : ℕ) → index_in (literal_at i) ≡ i
index_round_trip i = go (i % 2 == 0) refl
  where
    go : (b : Bool) → (i % 2 == 0) ≡ b → cond b (i / 2 * 2) (i / 2 * 2 + 1) ≡ i
    go true e = let h : i % 2 ≡ 0 = eqb-true (i % 2) 0 e in omega arith
    go false e = let h : i % 2 ≡ 0 → ⊥ = λ z. both_ways (i % 2 == 0) e (eq-eqb (i % 2) 0 z) in omega arith

pub index_distinct : (l m : Signed) → index_in l ≡ index_in m → l ≡ m
index_distinct l m e = go l.positive m.positive refl refl
  where
    go : (a b : Bool) → l.positive ≡ a → m.positive ≡ b → l ≡ m
    go true true p q =
        let same : l.variable.0 * 2 ≡ m.variable.0 * 2 = sym (ap (λ b. cond b (l.variable.0 * 2) (l.variable.0 * 2 + 1)) p) ∙ e ∙ ap (λ b. cond b (m.variable.0 * 2) (m.variable.0 * 2 + 1)) q in
        let v : l.variable.0 ≡ m.variable.0 = omega arith in
        λ i. record { variable = record { 0 = v i }; positive = (p ∙ sym q) i }
    go false false p q =
        let same : l.variable.0 * 2 + 1 ≡ m.variable.0 * 2 + 1 = sym (ap (λ b. cond b (l.variable.0 * 2) (l.variable.0 * 2 + 1)) p) ∙ e ∙ ap (λ b. cond b (m.variable.0 * 2) (m.variable.0 * 2 + 1)) q in
        let v : l.variable.0 ≡ m.variable.0 = omega arith in
        λ i. record { variable = record { 0 = v i }; positive = (p ∙ sym q) i }
    go true false p q =
        let same : l.variable.0 * 2 ≡ m.variable.0 * 2 + 1 = sym (ap (λ b. cond b (l.variable.0 * 2) (l.variable.0 * 2 + 1)) p) ∙ e ∙ ap (λ b. cond b (m.variable.0 * 2) (m.variable.0 * 2 + 1)) q in
        absurd (omega arith)
    go false true p q =
        let same : l.variable.0 * 2 + 1 ≡ m.variable.0 * 2 = sym (ap (λ b. cond b (l.variable.0 * 2) (l.variable.0 * 2 + 1)) p) ∙ e ∙ ap (λ b. cond b (m.variable.0 * 2) (m.variable.0 * 2 + 1)) q in
        absurd (omega arith)

-- both literals are one exactly where their indexes are
pub same_is_index : (l m : Signed) → same_literal l m ≡ (index_in l == index_in m)
same_is_index l m = go (booleans_decide (same_literal l m)) (booleans_decide (index_in l == index_in m))
  where
    booleans_decide : (b : Bool) → (b ≡ true) ⊎ (b ≡ false)
    booleans_decide b = cases_Bool b

    go : (same_literal l m ≡ true) ⊎ (same_literal l m ≡ false) → ((index_in l == index_in m) ≡ true) ⊎ ((index_in l == index_in m) ≡ false) → same_literal l m ≡ (index_in l == index_in m)
    go (inl p) (inl q) = p ∙ sym q
    go (inr p) (inr q) = p ∙ sym q
    go (inl p) (inr q) = absurd (both_ways (index_in l == index_in m) q (eq-eqb (index_in l) (index_in m) (ap index_in (same_literal_true l m p))))
    go (inr p) (inl q) = absurd (both_ways (same_literal l m) p (subst (λ (x : Signed). same_literal l x ≡ true) (index_distinct l m (eqb-true (index_in l) (index_in m) q)) (same_literal-self l)))

pub same_literal_laws : IsEquivalence same_literal
same_literal_laws = record {
  refl = same_literal-self;
  symm = λ a b. same_is_index a b ∙ nat_eq_equiv.symm (index_in a) (index_in b) ∙ sym (same_is_index b a);
  congr = λ a b c h. ap (λ (x : Signed). same_literal x c) (same_literal_true a b h);
}
