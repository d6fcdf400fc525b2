-- The values of the trail, and its true literals.
use Rattle.std.proofs.Common.{◌≡◌, ℕ, ◌⊎◌, inl, inr, Bool, true, false, not, ◌||◌, ◌&&◌, ◌==◌, cond, List, [], ◌∷◌, reverse, Option, Some, None, refl, sym, ◌∙◌, ap, subst, eqb-true}
use Rattle.std.specs.Option.{option_map}
use Rattle.std.specs.List.{list_any}
use Rattle.std.proofs.Math.Bool.{beq}
use Rattle.std.proofs.lemmas.Bool.{both_ways, or_left, or_right}
use Rattle.std.proofs.lemmas.List.{reverse-append}
use Rattle.std.proofs.lemmas.List.Folds.{list_any-append}
use Rattle.resolvo_pool_core.specs.Slots.{at}
use Rattle.resolvo_store_core.specs.Signed.{Signed, negation, same_literal, has, value_under, is_true, is_false}
use Rattle.resolvo_store_core.specs.Values.{value_at}
use Rattle.resolvo_store_core.specs.SignLaws.{same_literal-self}
use Rattle.resolvo_store_core.specs.declared.decision.Entry.{Entry}
use Rattle.resolvo_store_core.specs.declared.decision_map.Assignment.{Assignment}
use Rattle.resolvo_store_core.specs.Trail.{assigned, assignment_of, value_in}
use Rattle.resolvo_sat.specs.Known.{IsUndecided}
use Rattle.resolvo_sat.specs.Entries.{literal_of, made_true, IsTrail}
use Rattle.resolvo_sat.proofs.Trails.{consistent}

or_comm : (a b : Bool) → (a || b) ≡ (b || a)
or_comm true true = refl
or_comm true false = refl
or_comm false true = refl
or_comm false false = refl

or_nil : (a : Bool) → (a || false) ≡ a
or_nil true = refl
or_nil false = refl

-- the order of the entries does not matter
any-reverse : {X : Type 0} (p : X → Bool) (xs : List X) → list_any p (reverse xs) ≡ list_any p xs
any-reverse p [] = refl
any-reverse p (x ∷ xs) =
    ap (list_any p) (reverse-append (x ∷ []) xs)
    ∙ list_any-append p (reverse xs) (x ∷ [])
    ∙ ap (λ b. list_any p (reverse xs) || b) (or_nil (p x))
    ∙ or_comm (list_any p (reverse xs)) (p x)
    ∙ ap (λ b. p x || b) (any-reverse p xs)

any_made_true : (es : List Entry) (l : Signed) → list_any (λ (e : Entry). same_literal (literal_of e) l) es ≡ has (made_true es) l
any_made_true [] l = refl
any_made_true (e ∷ es) l = ap (λ b. same_literal (literal_of e) l || b) (any_made_true es l)

has-reverse : (es : List Entry) (l : Signed) → has (made_true (reverse es)) l ≡ has (made_true es) l
has-reverse es l = sym (any_made_true (reverse es) l) ∙ any-reverse (λ (e : Entry). same_literal (literal_of e) l) es ∙ any_made_true es l

-- the literal of a variable's value
abbrev of_value : ℕ → Bool → Signed
of_value v b = record { variable = record { 0 = v }; positive = b }

assigned_known : (es : List Entry) (v : ℕ) (a : Assignment) → assigned es v ≡ Some a → has (made_true es) (of_value v a.value) ≡ true
assigned_known [] v a h = cc
assigned_known (e ∷ es) v a h = go (e.decision.variable.0 == v) refl h (λ k. assigned_known es v a k)
  where
    go : (b : Bool) → (e.decision.variable.0 == v) ≡ b → cond b (Some (assignment_of e)) (assigned es v) ≡ Some a → (assigned es v ≡ Some a → has (made_true es) (of_value v a.value) ≡ true) → has (made_true (e ∷ es)) (record { variable = record { 0 = v }; positive = a.value }) ≡ true
    go true q k more =
        let same : assignment_of e ≡ a = cc in
        let number : e.decision.variable.0 ≡ v = eqb-true e.decision.variable.0 v q in
        let value : e.decision.value ≡ a.value = ap (λ (x : Assignment). x.value) same in
        or_left _ _ (subst (λ (n : ℕ). same_literal (literal_of e) (record { variable = record { 0 = n }; positive = a.value }) ≡ true) number (subst (λ b. same_literal (literal_of e) (record { variable = e.decision.variable; positive = b }) ≡ true) value (same_literal-self (literal_of e))))
    go false q k more = or_right _ _ (more k)

none_known : (es : List Entry) (l : Signed) → assigned es l.variable.0 ≡ None → has (made_true es) l ≡ false
none_known [] l h = refl
none_known (e ∷ es) l h = go (e.decision.variable.0 == l.variable.0) refl h (λ k. none_known es l k)
  where
    go : (b : Bool) → (e.decision.variable.0 == l.variable.0) ≡ b → cond b (Some (assignment_of e)) (assigned es l.variable.0) ≡ None → (assigned es l.variable.0 ≡ None → has (made_true es) l ≡ false) → has (made_true (e ∷ es)) l ≡ false
    go true q k more = cc
    go false q k more = ap (λ b. (b && beq e.decision.value l.positive) || has (made_true es) l) q ∙ more k

beq_cases : (a b : Bool) → ((beq a b ≡ true) × (a ≡ b)) ⊎ ((beq a b ≡ false) × (a ≡ not b))
beq_cases true true = inl (refl, refl)
beq_cases true false = inr (refl, refl)
beq_cases false true = inr (refl, refl)
beq_cases false false = inl (refl, refl)

true_if_assigned : (count : ℕ) (cs : List (List Signed)) (es : List Entry) (l : Signed) (o : Option Assignment) → IsTrail count cs (reverse es) → assigned es l.variable.0 ≡ o → is_true (option_map (λ v. beq v l.positive) (option_map (λ (a : Assignment). a.value) o)) ≡ has (made_true (reverse es)) l
true_if_assigned count cs es l None t h = sym (has-reverse es l ∙ none_known es l h)
true_if_assigned count cs es l (Some a) t h =
    let known : has (made_true (reverse es)) (of_value l.variable.0 a.value) ≡ true = has-reverse es (of_value l.variable.0 a.value) ∙ assigned_known es l.variable.0 a h in
    elim (beq_cases a.value l.positive) [
      | inl s ↦ s.0 ∙ sym (subst (λ b. has (made_true (reverse es)) (record { variable = l.variable; positive = b }) ≡ true) s.1 known)
      | inr s ↦ s.0 ∙ sym (unless (has (made_true (reverse es)) l) (λ both. consistent count cs (reverse es) l t both (subst (λ b. has (made_true (reverse es)) (record { variable = l.variable; positive = b }) ≡ true) s.1 known)))
    ]
  where
    unless : (b : Bool) → (b ≡ true → ⊥) → b ≡ false
    unless true h = absurd (h refl)
    unless false h = refl

pub true_is : (count : ℕ) (cs : List (List Signed)) (es : List Entry) (map : List (Option Assignment)) (l : Signed) → IsTrail count cs (reverse es) → ((v : ℕ) → at map v ≡ assigned es v) → is_true (value_under (value_at map) l) ≡ has (made_true (reverse es)) l
true_is count cs es map l t mapped = true_if_assigned count cs es l (at map l.variable.0) t (sym (mapped l.variable.0))

false_negated : (o : Option Bool) (p : Bool) → is_false (option_map (λ v. beq v p) o) ≡ is_true (option_map (λ v. beq v (not p)) o)
false_negated None p = refl
false_negated (Some true) true = refl
false_negated (Some true) false = refl
false_negated (Some false) true = refl
false_negated (Some false) false = refl

pub false_is : (count : ℕ) (cs : List (List Signed)) (es : List Entry) (map : List (Option Assignment)) (l : Signed) → IsTrail count cs (reverse es) → ((v : ℕ) → at map v ≡ assigned es v) → is_false (value_under (value_at map) l) ≡ has (made_true (reverse es)) (negation l)
false_is count cs es map l t mapped = false_negated (value_at map l.variable.0) l.positive ∙ true_is count cs es map (negation l) t mapped

-- a variable neither of whose literals is true has no value
pub undecided_none : (es : List Entry) (l : Signed) → IsUndecided (made_true (reverse es)) l → value_in es l.variable.0 ≡ None
undecided_none es l u = go (assigned es l.variable.0) refl
  where
    go : (o : Option Assignment) → assigned es l.variable.0 ≡ o → option_map (λ (a : Assignment). a.value) o ≡ None
    go None h = refl
    go (Some a) h =
        let known : has (made_true (reverse es)) (of_value l.variable.0 a.value) ≡ true = has-reverse es (of_value l.variable.0 a.value) ∙ assigned_known es l.variable.0 a h in
        elim (beq_cases a.value l.positive) [
          | inl s ↦ absurd (both_ways _ u.not_true (subst (λ b. has (made_true (reverse es)) (record { variable = l.variable; positive = b }) ≡ true) s.1 known))
          | inr s ↦ absurd (both_ways _ u.not_false (subst (λ b. has (made_true (reverse es)) (record { variable = l.variable; positive = b }) ≡ true) s.1 known))
        ]
