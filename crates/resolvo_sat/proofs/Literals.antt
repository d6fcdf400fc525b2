-- Lemmas on literals and lists of them.
use Rattle.std.proofs.lemmas.List.{take_more}
use Rattle.std.proofs.Common.{◌≡◌, ℕ, ◌+◌, ◌<◌, length, take, get_or, Bool, true, false, not, ◌⊎◌, inl, inr, List, [], ◌∷◌, ◌++◌, refl, sym, ap, subst}
use Rattle.std.proofs.lemmas.Bool.{or_cases, or_left, or_right, both_ways}
use Rattle.resolvo_store_core.specs.Signed.{Signed, negation, same_literal, has}
use Rattle.resolvo_store_core.specs.SignLaws.{same_literal_true, same_literal-self}

pub not_not : (b : Bool) → not (not b) ≡ b
not_not true = refl
not_not false = refl

pub negation-negation : (l : Signed) → negation (negation l) ≡ l
negation-negation l = ap (λ (b : Bool). let r : Signed = record { variable = l.variable; positive = b } in r) (not_not l.positive)

pub has-cons : (x : Signed) (xs : List Signed) (l : Signed) → has (x ∷ xs) l ≡ true → (x ≡ l) ⊎ (has xs l ≡ true)
has-cons x xs l h = elim (or_cases (same_literal x l) (has xs l) h) [ inl e ↦ inl (same_literal_true x l e) | inr e ↦ inr e ]

pub has_here : (x : Signed) (xs : List Signed) (l : Signed) → x ≡ l → has (x ∷ xs) l ≡ true
has_here x xs l e = or_left _ _ (let P : Signed → Type 0 = λ m. same_literal x m ≡ true in subst P e (same_literal-self x))

pub has_later : (x : Signed) (xs : List Signed) (l : Signed) → has xs l ≡ true → has (x ∷ xs) l ≡ true
has_later x xs l h = or_right _ _ h

pub has-append : (xs ys : List Signed) (l : Signed) → has (xs ++ ys) l ≡ true → (has xs l ≡ true) ⊎ (has ys l ≡ true)
has-append [] ys l h = inr h
has-append (x ∷ xs) ys l h =
    elim (has-cons x (xs ++ ys) l h) [
      | inl e ↦ inl (has_here x xs l e)
      | inr e ↦ elim (has-append xs ys l e) [ inl a ↦ inl (has_later x xs l a) | inr b ↦ inr b ]
    ]

pub has_left : (xs ys : List Signed) (l : Signed) → has xs l ≡ true → has (xs ++ ys) l ≡ true
has_left [] ys l h = absurd (both_ways false refl h)
has_left (x ∷ xs) ys l h = elim (has-cons x xs l h) [ inl e ↦ has_here x (xs ++ ys) l e | inr e ↦ has_later x (xs ++ ys) l (has_left xs ys l e) ]

pub has_right : (xs ys : List Signed) (l : Signed) → has ys l ≡ true → has (xs ++ ys) l ≡ true
has_right [] ys l h = h
has_right (x ∷ xs) ys l h = has_later x (xs ++ ys) l (has_right xs ys l h)

-- one literal more of a list that is read from its first on
pub has_more : (xs : List Signed) (i : ℕ) (d m : Signed) → i < length xs → has (take (i + 1) xs) m ≡ true → (has (take i xs) m ≡ true) ⊎ (get_or xs i d ≡ m)
has_more xs i d m h a =
    elim (has-append (take i xs) (get_or xs i d ∷ []) m (subst (λ (l : List Signed). has l m ≡ true) (take_more xs i d h) a)) [
      | inl b ↦ inl b
      | inr b ↦ elim (has-cons (get_or xs i d) [] m b) [ inl q ↦ inr q | inr q ↦ absurd (both_ways false refl q) ]
    ]

pub more_has_old : (xs : List Signed) (i : ℕ) (d m : Signed) → i < length xs → has (take i xs) m ≡ true → has (take (i + 1) xs) m ≡ true
more_has_old xs i d m h a = subst (λ (l : List Signed). has l m ≡ true) (sym (take_more xs i d h)) (has_left (take i xs) (get_or xs i d ∷ []) m a)

pub more_has_new : (xs : List Signed) (i : ℕ) (d : Signed) → i < length xs → has (take (i + 1) xs) (get_or xs i d) ≡ true
more_has_new xs i d h = subst (λ (l : List Signed). has l (get_or xs i d) ≡ true) (sym (take_more xs i d h)) (has_right (take i xs) (get_or xs i d ∷ []) (get_or xs i d) (has_here (get_or xs i d) [] (get_or xs i d) refl))
