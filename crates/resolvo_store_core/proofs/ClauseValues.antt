-- Lemmas on the values of clauses.
use Rattle.std.proofs.Common.{◌≡◌, arith, subst, Contains, List, [], ◌∷◌, ◌++◌, Bool, true, false, Option, Some, None, All, refl, sym, ◌∙◌, ap}
use Rattle.std.proofs.lemmas.List.{append_assoc}
use Rattle.std.proofs.lemmas.List.Elements.{All-push, Contains-push, Contains-append_left, Contains-append_right}
use Rattle.resolvo_store_core.specs.Signed.{Signed}
use Rattle.resolvo_store_core.specs.Clauses.{IsValueOf}

-- one more element of a list that is read in order
pub one_more : {X : Type 0} (xs ys zs all : List X) (x : X) → xs ++ ys ≡ all → ys ≡ x ∷ zs → (xs ++ x ∷ []) ++ zs ≡ all
one_more xs ys zs all x whole e = append_assoc xs (x ∷ []) zs ∙ ap (λ w. xs ++ w) (sym e) ∙ whole

-- the element read next is in the list
pub is_among : {X : Type 0} (xs ys zs all : List X) (x : X) → xs ++ ys ≡ all → ys ≡ x ∷ zs → Contains all x
is_among xs ys zs all x whole e =
    let first : Contains (x ∷ zs) x = (0, omega arith, refl) in
    subst (λ w. Contains w x) whole (Contains-append_right xs ys x (subst (λ w. Contains w x) (sym e) first))

-- a false literal more
pub value_false_more : (f : Signed → Option Bool) (xs : List Signed) (l : Signed) (v : Option Bool) → IsValueOf f xs v → (v ≡ Some true → ⊥) → f l ≡ Some false → IsValueOf f (xs ++ l ∷ []) v
value_false_more f xs l (Some true) is n e = absurd (n refl)
value_false_more f xs l (Some false) is n e = All-push (λ m. f m ≡ Some false) xs l is e
value_false_more f xs l None is n e = (is.0, Contains-append_left xs (l ∷ []) is.0 is.1, is.2, All-push (λ m. f m ≡ Some true → ⊥) xs l is.3 (λ h. let both : Some false ≡ Some true = sym e ∙ h in absurd cc))

-- an undecided literal more
pub value_open_more : (f : Signed → Option Bool) (xs : List Signed) (l : Signed) (v : Option Bool) → IsValueOf f xs v → (v ≡ Some true → ⊥) → f l ≡ None → IsValueOf f (xs ++ l ∷ []) None
value_open_more f xs l v is n e = (l, Contains-push xs l, e, All-push (λ m. f m ≡ Some true → ⊥) xs l (none_true v is n) (λ h. let both : None ≡ Some true = sym e ∙ h in absurd cc))
  where
    none_true : (w : Option Bool) → IsValueOf f xs w → (w ≡ Some true → ⊥) → All (λ m. f m ≡ Some true → ⊥) xs
    none_true (Some true) is n = absurd (n refl)
    none_true (Some false) is n = λ k d h t. let both : Some false ≡ Some true = sym (is k d h) ∙ t in absurd cc
    none_true None is n = is.3
