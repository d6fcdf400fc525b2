-- A trail with one entry more, and with its last one removed.
use Rattle.std.proofs.Common.{◌≡◌, ℕ, ◌+◌, inl, inr, cond, Bool, true, false, List, [], ◌∷◌, ◌++◌, Option, Some, None, refl, sym, ◌∙◌, ap, subst, arith, eqb-true, eq-eqb}
use Rattle.std.specs.Prelude.{◌==◌, ◌&&◌, not}
use Rattle.std.specs.Option.{option_map}
use Rattle.std.specs.List.{count_by}
use Rattle.std.proofs.lemmas.Bool.{both_ways, cases_Bool}
use Rattle.std.proofs.lemmas.List.Sums.{sum_by-cons}
use Rattle.std.proofs.Math.Bool.{beq}
use Rattle.resolvo_store_core.specs.Signed.{Signed, negation, same_literal, value_under, is_true, is_false}
use Rattle.resolvo_store_core.specs.Trail.{assigned, assignment_of, value_in, EachOnce}
use Rattle.resolvo_store_core.specs.declared.decision.Entry.{Entry}
use Rattle.resolvo_store_core.specs.declared.decision_map.Assignment.{Assignment}
use Rattle.resolvo_decide.specs.CandidateCounts.{found, made_true}
use Rattle.resolvo_decide.proofs.Seen.{value_prefix}

-- 1 for true, 0 for false
abbrev one_if : Bool → ℕ
one_if b = cond b 1 0

none_parts : {X : Type 0} (b : Bool) (x : X) (o : Option X) → cond b (Some x) o ≡ None → (b ≡ false) × (o ≡ None)
none_parts true x o h = cc
none_parts false x o h = (refl, h)

-- the value of a variable after a new entry
assigned_end : (es : List Entry) (e : Entry) (v : ℕ) → assigned es e.decision.variable.0 ≡ None → assigned (es ++ e ∷ []) v ≡ cond (e.decision.variable.0 == v) (Some (assignment_of e)) (assigned es v)
assigned_end [] e v h = refl
assigned_end (d ∷ es) e v h = go (d.decision.variable.0 == v) refl (assigned_end es e v parts.1)
  where
    parts : ((d.decision.variable.0 == e.decision.variable.0) ≡ false) × (assigned es e.decision.variable.0 ≡ None)
    parts = none_parts (d.decision.variable.0 == e.decision.variable.0) (assignment_of d) (assigned es e.decision.variable.0) h

    far : d.decision.variable.0 ≡ v → (e.decision.variable.0 == v) ≡ false
    far is = elim (cases_Bool (e.decision.variable.0 == v)) [
      | inl same ↦ absurd (both_ways (d.decision.variable.0 == e.decision.variable.0) parts.0 (eq-eqb d.decision.variable.0 e.decision.variable.0 (is ∙ sym (eqb-true e.decision.variable.0 v same))))
      | inr other ↦ other
    ]

    go : (c : Bool) → (d.decision.variable.0 == v) ≡ c → assigned (es ++ e ∷ []) v ≡ cond (e.decision.variable.0 == v) (Some (assignment_of e)) (assigned es v)
        → cond c (Some (assignment_of d)) (assigned (es ++ e ∷ []) v) ≡ cond (e.decision.variable.0 == v) (Some (assignment_of e)) (cond c (Some (assignment_of d)) (assigned es v))
    go true at more = ap (λ b. cond b (Some (assignment_of e)) (Some (assignment_of d))) (sym (far (eqb-true d.decision.variable.0 v at)))
    go false at more = more

value_end : (es : List Entry) (e : Entry) (v : ℕ) → assigned es e.decision.variable.0 ≡ None → value_in (es ++ e ∷ []) v ≡ cond (e.decision.variable.0 == v) (Some e.decision.value) (value_in es v)
value_end es e v h = ap (option_map (λ (a : Assignment). a.value)) (assigned_end es e v h) ∙ go (e.decision.variable.0 == v)
  where
    go : (c : Bool) → option_map (λ (a : Assignment). a.value) (cond c (Some (assignment_of e)) (assigned es v)) ≡ cond c (Some e.decision.value) (value_in es v)
    go true = refl
    go false = refl

assigned_prefix : (es : List Entry) (e : Entry) (v : ℕ) → assigned (es ++ e ∷ []) v ≡ None → assigned es v ≡ None
assigned_prefix [] e v h = refl
assigned_prefix (d ∷ es) e v h = go (d.decision.variable.0 == v) h (assigned_prefix es e v)
  where
    go : (b : Bool) → cond b (Some (assignment_of d)) (assigned (es ++ e ∷ []) v) ≡ None → (assigned (es ++ e ∷ []) v ≡ None → assigned es v ≡ None) → cond b (Some (assignment_of d)) (assigned es v) ≡ None
    go true k more = cc
    go false k more = more k

pub once_end : (es : List Entry) (e : Entry) → EachOnce es → assigned es e.decision.variable.0 ≡ None → EachOnce (es ++ e ∷ [])
once_end [] e h k = (refl, tt)
once_end (d ∷ es) e h k = (
  assigned_end es e d.decision.variable.0 parts.1 ∙ ap (λ b. cond b (Some (assignment_of e)) (assigned es d.decision.variable.0)) other ∙ h.0,
  once_end es e h.1 parts.1,
)
  where
    parts : ((d.decision.variable.0 == e.decision.variable.0) ≡ false) × (assigned es e.decision.variable.0 ≡ None)
    parts = none_parts (d.decision.variable.0 == e.decision.variable.0) (assignment_of d) (assigned es e.decision.variable.0) k

    other : (e.decision.variable.0 == d.decision.variable.0) ≡ false
    other = elim (cases_Bool (e.decision.variable.0 == d.decision.variable.0)) [
      | inl same ↦ absurd (both_ways (d.decision.variable.0 == e.decision.variable.0) parts.0 (eq-eqb d.decision.variable.0 e.decision.variable.0 (sym (eqb-true e.decision.variable.0 d.decision.variable.0 same))))
      | inr far ↦ far
    ]

pub once_prefix : (es : List Entry) (e : Entry) → EachOnce (es ++ e ∷ []) → EachOnce es
once_prefix [] e h = tt
once_prefix (d ∷ es) e h = (assigned_prefix es e d.decision.variable.0 h.0, once_prefix es e h.1)

-- the last entry's variable is in none before it
there_end : (es : List Entry) (e : Entry) → assigned (es ++ e ∷ []) e.decision.variable.0 ≡ None → ⊥
there_end [] e h = absurd (both_ways (e.decision.variable.0 == e.decision.variable.0) (none_parts (e.decision.variable.0 == e.decision.variable.0) (assignment_of e) None h).0 (eq-eqb e.decision.variable.0 e.decision.variable.0 refl))
there_end (d ∷ es) e h = there_end es e (none_parts (d.decision.variable.0 == e.decision.variable.0) (assignment_of d) (assigned (es ++ e ∷ []) e.decision.variable.0) h).1

pub last_open : (es : List Entry) (e : Entry) → EachOnce (es ++ e ∷ []) → assigned es e.decision.variable.0 ≡ None
last_open [] e h = refl
last_open (d ∷ es) e h = go (d.decision.variable.0 == e.decision.variable.0) refl (last_open es e h.1)
  where
    go : (b : Bool) → (d.decision.variable.0 == e.decision.variable.0) ≡ b → assigned es e.decision.variable.0 ≡ None → cond b (Some (assignment_of d)) (assigned es e.decision.variable.0) ≡ None
    go true q more = absurd (there_end es e (subst (λ (v : ℕ). assigned (es ++ e ∷ []) v ≡ None) (eqb-true d.decision.variable.0 e.decision.variable.0 q) h.0))
    go false q more = more

-- an entry's variable is in none before it
pub open_before : (xs : List Entry) (e : Entry) (ys : List Entry) → EachOnce (xs ++ e ∷ ys) → assigned xs e.decision.variable.0 ≡ None
open_before [] e ys h = refl
open_before (d ∷ xs) e ys h = go (d.decision.variable.0 == e.decision.variable.0) refl (open_before xs e ys h.1)
  where
    there : (zs : List Entry) → assigned (zs ++ e ∷ ys) e.decision.variable.0 ≡ None → ⊥
    there [] k = absurd (both_ways (e.decision.variable.0 == e.decision.variable.0) (none_parts (e.decision.variable.0 == e.decision.variable.0) (assignment_of e) (assigned ys e.decision.variable.0) k).0 (eq-eqb e.decision.variable.0 e.decision.variable.0 refl))
    there (z ∷ zs) k = there zs (none_parts (z.decision.variable.0 == e.decision.variable.0) (assignment_of z) (assigned (zs ++ e ∷ ys) e.decision.variable.0) k).1

    go : (b : Bool) → (d.decision.variable.0 == e.decision.variable.0) ≡ b → assigned xs e.decision.variable.0 ≡ None → cond b (Some (assignment_of d)) (assigned xs e.decision.variable.0) ≡ None
    go true q more = absurd (there xs (subst (λ (v : ℕ). assigned (xs ++ e ∷ ys) v ≡ None) (eqb-true d.decision.variable.0 e.decision.variable.0 q) h.0))
    go false q more = more

-- ---- what an entry does to a literal

module _ (es : List Entry) (e : Entry) (fresh : assigned es e.decision.variable.0 ≡ None) (l : Signed) where
  unset : (e.decision.variable.0 == l.variable.0) ≡ true → value_in es l.variable.0 ≡ None
  unset at = ap (value_in es) (sym (eqb-true e.decision.variable.0 l.variable.0 at)) ∙ ap (option_map (λ (a : Assignment). a.value)) fresh

  pub true_end : one_if (is_true (value_under (value_in (es ++ e ∷ [])) l)) ≡ one_if (is_true (value_under (value_in es) l)) + one_if (same_literal (made_true e) l)
  true_end = ap (λ (o : Option Bool). one_if (is_true (option_map (λ v. beq v l.positive) o))) (value_end es e l.variable.0 fresh) ∙ go (e.decision.variable.0 == l.variable.0) refl
    where
      go : (c : Bool) → (e.decision.variable.0 == l.variable.0) ≡ c → one_if (is_true (option_map (λ v. beq v l.positive) (cond c (Some e.decision.value) (value_in es l.variable.0))))
          ≡ one_if (is_true (option_map (λ v. beq v l.positive) (value_in es l.variable.0))) + one_if (c && beq e.decision.value l.positive)
      go true at =
          let none : one_if (is_true (option_map (λ v. beq v l.positive) (value_in es l.variable.0))) ≡ 0 = ap (λ (o : Option Bool). one_if (is_true (option_map (λ v. beq v l.positive) o))) (unset at) in
          omega (arith, none)
      go false at = omega arith

  pub false_end : one_if (is_false (value_under (value_in (es ++ e ∷ [])) l)) ≡ one_if (is_false (value_under (value_in es) l)) + one_if (same_literal (negation (made_true e)) l)
  false_end = ap (λ (o : Option Bool). one_if (is_false (option_map (λ v. beq v l.positive) o))) (value_end es e l.variable.0 fresh) ∙ go (e.decision.variable.0 == l.variable.0) refl
    where
      turned : (a b : Bool) → not (beq a b) ≡ beq (not a) b
      turned true true = refl
      turned true false = refl
      turned false true = refl
      turned false false = refl

      go : (c : Bool) → (e.decision.variable.0 == l.variable.0) ≡ c → one_if (is_false (option_map (λ v. beq v l.positive) (cond c (Some e.decision.value) (value_in es l.variable.0))))
          ≡ one_if (is_false (option_map (λ v. beq v l.positive) (value_in es l.variable.0))) + one_if (c && beq (not e.decision.value) l.positive)
      go true at =
          let none : one_if (is_false (option_map (λ v. beq v l.positive) (value_in es l.variable.0))) ≡ 0 = ap (λ (o : Option Bool). one_if (is_false (option_map (λ v. beq v l.positive) o))) (unset at) in
          let turn : one_if (not (beq e.decision.value l.positive)) ≡ one_if (beq (not e.decision.value) l.positive) = ap (λ b. one_if b) (turned e.decision.value l.positive) in
          omega (arith, none, turn)
      go false at = omega arith

  -- a false literal stays so
  pub stays_false : is_false (value_under (value_in es) l) ≡ true → is_false (value_under (value_in (es ++ e ∷ [])) l) ≡ true
  stays_false h = go (value_in es l.variable.0) refl h
    where
      go : (o : Option Bool) → value_in es l.variable.0 ≡ o → is_false (option_map (λ v. beq v l.positive) o) ≡ true → is_false (value_under (value_in (es ++ e ∷ [])) l) ≡ true
      go None is k = cc
      go (Some b) is k = ap (λ (o : Option Bool). is_false (option_map (λ v. beq v l.positive) o)) (value_prefix es (e ∷ []) l.variable.0 b is) ∙ k

  -- and was so before, unless the entry makes it false
  pub was_false : is_false (value_under (value_in (es ++ e ∷ [])) l) ≡ true → (same_literal (negation (made_true e)) l ≡ true → ⊥) → is_false (value_under (value_in es) l) ≡ true
  was_false h other = elim (cases_Bool (is_false (value_under (value_in es) l))) [
    | inl is ↦ is
    | inr unmet ↦ elim (cases_Bool (same_literal (negation (made_true e)) l)) [
      | inl same ↦ absurd (other same)
      | inr far ↦
          let one : one_if (is_false (value_under (value_in (es ++ e ∷ [])) l)) ≡ 1 = ap (λ b. one_if b) h in
          let none : one_if (is_false (value_under (value_in es) l)) ≡ 0 = ap (λ b. one_if b) unmet in
          let none_either : one_if (same_literal (negation (made_true e)) l) ≡ 0 = ap (λ b. one_if b) far in
          absurd (omega (arith, false_end, one, none, none_either))
    ]
  ]

-- ---- counts of literals

count_cons : {X : Type 0} (f : X → Bool) (x : X) (xs : List X) → count_by f (x ∷ xs) ≡ one_if (f x) + count_by f xs
count_cons f x xs = sum_by-cons (λ y. one_if (f y)) x xs

count_end : (f g : Signed → Bool) (m : Signed) → ((l : Signed) → one_if (f l) ≡ one_if (g l) + one_if (same_literal m l)) → (ls : List Signed) → count_by f ls ≡ count_by g ls + found m ls
count_end f g m each [] = refl
count_end f g m each (l ∷ ls) =
    let more : count_by f ls ≡ count_by g ls + found m ls = count_end f g m each ls in
    omega (arith, count_cons f l ls, count_cons g l ls, each l, more)

module _ (es : List Entry) (e : Entry) (fresh : assigned es e.decision.variable.0 ≡ None) (ls : List Signed) where
  pub trues_end : count_by (λ l. is_true (value_under (value_in (es ++ e ∷ [])) l)) ls ≡ count_by (λ l. is_true (value_under (value_in es) l)) ls + found (made_true e) ls
  trues_end = count_end (λ l. is_true (value_under (value_in (es ++ e ∷ [])) l)) (λ l. is_true (value_under (value_in es) l)) (made_true e) (true_end es e fresh) ls

  pub falses_end : count_by (λ l. is_false (value_under (value_in (es ++ e ∷ [])) l)) ls ≡ count_by (λ l. is_false (value_under (value_in es) l)) ls + found (negation (made_true e)) ls
  falses_end = count_end (λ l. is_false (value_under (value_in (es ++ e ∷ [])) l)) (λ l. is_false (value_under (value_in es) l)) (negation (made_true e)) (false_end es e fresh) ls
