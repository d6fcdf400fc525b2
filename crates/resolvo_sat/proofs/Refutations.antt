-- What one pass over clauses of variables refutes.
use Rattle.std.proofs.Common.{◌≡◌, ℕ, Bool, true, false, not, ◌⊎◌, inl, inr, List, [], ◌∷◌, map, Some, refl, sym, ◌∙◌, ap, subst, eqb-true, eq-eqb}
use Rattle.std.specs.Prelude.{nat_eq}
use Rattle.std.specs.List.{list_all}
use Rattle.std.proofs.Math.Bool.{beq}
use Rattle.std.proofs.lemmas.Bool.{false≢true, both_ways, or_left, or_right, and_from}
use Rattle.resolvo_pool_core.specs.OnePass as Pass
use Rattle.resolvo_pool_core.proofs.PassLearns.{resolve_step, falsified_refutes}
use Rattle.resolvo_pool_core.proofs.PassSound.{Agrees, refutes_nothing}
use Rattle.resolvo_store_core.specs.Signed.{Signed, negation, same_literal, has}
use Rattle.resolvo_store_core.specs.Clauses.{no, root}
use Rattle.resolvo_sat.specs.Known.{holds, Satisfies, SatisfiesAll}
use Rattle.resolvo_sat.specs.AnalyzeFinal.{rup_literal, rup_clause, Refutes}
use Rattle.resolvo_sat.proofs.Literals.{has-cons, has_here, has_later}

pub exact : (a b : ℕ) → nat_eq a b ≡ true → a ≡ b
exact a b h = eqb-true a b h

pub own : (a : ℕ) → nat_eq a a ≡ true
own a = eq-eqb a a refl

-- the literal of an atom and a sign
abbrev signed_of : Pass.Literal ℕ → Signed
signed_of l = record { variable = record { 0 = l.atom }; positive = l.positive }

has-rup_literal : (c : List Signed) (l : Signed) → Pass.has nat_eq (rup_clause c) (rup_literal l) ≡ has c l
has-rup_literal [] l = refl
has-rup_literal (x ∷ xs) l = ap (λ b. Rattle.std.specs.Prelude.◌||◌ (same_literal x l) b) (has-rup_literal xs l)

-- a refutation of a clause refutes one with more literals
pub refutes_more : (old new : List Signed) (cs : List (List Signed)) → ((l : Signed) → has old l ≡ true → has new l ≡ true) → Refutes old cs → Refutes new cs
refutes_more old new cs more r known denied = r known (λ l h. denied l (has-rup_literal new (signed_of l) ∙ more (signed_of l) (sym (has-rup_literal old (signed_of l)) ∙ h)))

-- one pass over a clause refutes what holds all its literals
pub refutes_falsified : (c new : List Signed) → ((l : Signed) → has c l ≡ true → has new l ≡ true) → Refutes new (c ∷ [])
refutes_falsified c new inside = refutes_more c new (c ∷ []) inside (falsified_refutes nat_eq exact own (rup_clause c))

-- the literal is this one, or it is in the clause
rup_cases : (new : List Signed) (l : Pass.Literal ℕ) (p : Signed) → (signed_of l ≡ p) ⊎ (has new (signed_of l) ≡ true) → (l ≡ rup_literal p) ⊎ (Pass.has nat_eq (rup_clause new) l ≡ true)
rup_cases new l p (inl e) = inl (ap rup_literal e)
rup_cases new l p (inr e) = inr (has-rup_literal new (signed_of l) ∙ e)

-- Resolution: if each literal of the old clause but not p, and each literal of c but p, is in the
-- new clause, then c and the causes of the old one refute the new one.
pub refutes_step : (old new c : List Signed) (p : Signed) (cs : List (List Signed))
    → ((l : Signed) → has old l ≡ true → (l ≡ negation p) ⊎ (has new l ≡ true))
    → ((l : Signed) → has c l ≡ true → (l ≡ p) ⊎ (has new l ≡ true))
    → Refutes old cs → Refutes new (c ∷ cs)
refutes_step old new c p cs from_old from_c r =
    resolve_step nat_eq exact own (rup_clause old) (rup_clause new) (rup_clause c) (rup_literal p) (map rup_clause cs)
    (λ l h. rup_cases new l (negation p) (from_old (signed_of l) (sym (has-rup_literal old (signed_of l)) ∙ h)))
    (λ l h. rup_cases new l p (from_c (signed_of l) (sym (has-rup_literal c (signed_of l)) ∙ h)))
    r

same_value : (v : ℕ → Bool) (a b : ℕ) → nat_eq a b ≡ true → v a ≡ v b
same_value v a b h = ap v (exact a b h)

true_if_satisfied : (v : ℕ → Bool) (c : List Signed) (l : Signed) → has c l ≡ true → holds v l ≡ true → Pass.clause_true v (rup_clause c) ≡ true
true_if_satisfied v [] l h t = absurd (both_ways false refl h)
true_if_satisfied v (x ∷ xs) l h t =
    elim (has-cons x xs l h) [
      | inl e ↦ or_left _ _ (subst (λ (m : Signed). holds v m ≡ true) (sym e) t)
      | inr e ↦ or_right _ _ (true_if_satisfied v xs l e t)
    ]

all_true : (v : ℕ → Bool) (cs : List (List Signed)) → SatisfiesAll v cs → list_all (Pass.clause_true v) (map rup_clause cs) ≡ true
all_true v [] s = refl
all_true v (c ∷ cs) s = and_from _ _ (true_if_satisfied v c s.0.0 s.0.1 s.0.2) (all_true v cs s.1)

-- some literal of the clause is true, or each is false
cases_satisfied : (v : ℕ → Bool) (c : List Signed) → Satisfies v c ⊎ ((l : Signed) → has c l ≡ true → holds v l ≡ false)
cases_satisfied v [] = inr (λ l h. absurd (both_ways false refl h))
cases_satisfied v (x ∷ xs) = go (holds v x) refl (cases_satisfied v xs)
  where
    go : (b : Bool) → holds v x ≡ b → Satisfies v xs ⊎ ((l : Signed) → has xs l ≡ true → holds v l ≡ false) → Satisfies v (x ∷ xs) ⊎ ((l : Signed) → has (x ∷ xs) l ≡ true → holds v l ≡ false)
    go true e r = inl (x, has_here x xs x refl, e)
    go false e (inl (l, h, t)) = inl (l, has_later x xs l h, t)
    go false e (inr r) = inr (λ l h. elim (has-cons x xs l h) [ inl i ↦ subst (λ (m : Signed). holds v m ≡ false) i e | inr i ↦ r l i ])

-- Soundness: a clause that one pass over clauses refutes beside the root is true wherever they and the root are.
pub refuted_holds : (v : ℕ → Bool) (c : List Signed) (cs : List (List Signed)) → v 0 ≡ true → Refutes (no root ∷ c) cs → SatisfiesAll v cs → Satisfies v c
refuted_holds v c cs rooted r s = elim (cases_satisfied v c) [
  | inl t ↦ t
  | inr f ↦
      let agrees : Agrees nat_eq v (same_value v) (λ a. Some (v a)) = record { so = λ a b e. cc } in
      absurd (false≢true (sym (refutes_nothing nat_eq v (same_value v) (λ a. Some (v a)) agrees (map rup_clause cs) (all_true v cs s)) ∙ r (λ a. Some (v a)) (λ l h.
      elim (has-cons (no root) c (signed_of l) (sym (has-rup_literal (no root ∷ c) (signed_of l)) ∙ h)) [
        | inl e ↦ subst (λ (m : Signed). not (beq (v m.variable.0) m.positive) ≡ true) e (ap (λ b. not (beq b false)) rooted)
        | inr e ↦ ap not (f (signed_of l) e)
      ])))
]
