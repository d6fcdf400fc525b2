-- Lemmas on the places of variables.
use Rattle.std.proofs.Common.{◌≡◌, ℕ, ◌+◌, List, [], ◌∷◌, ◌++◌, length, Bool, true, false, cond, Option, Some, None, ◌⊎◌, inl, inr, sym, ◌∙◌, ap, subst, arith}
use Rattle.std.proofs.lemmas.Bool.{both_ways, cases_Bool}
use Rattle.resolvo_store.specs.declared.variable_map.VariableOrigin.{VariableOrigin}
use Rattle.resolvo_store.specs.declared.variable_map.VariableOrigin.TheVariants.{Solvable}
use Rattle.resolvo_store.specs.Origins.{is_of, place_from, place_of, AreNumbers}

module _ {N S : Type 0} (eq : S → S → Bool) where
  -- a variable that is not the solvable's changes no place of its
  pub place_other : (os : List (VariableOrigin N S)) (i : ℕ) (s : S) (o : VariableOrigin N S) → is_of eq s o ≡ false → place_from eq i s (os ++ o ∷ []) ≡ place_from eq i s os
  place_other [] i s o h = ap (λ b. cond b (Some i) None) h
  place_other (x ∷ os) i s o h = ap (λ r. cond (is_of eq s x) (Some i) r) (place_other os (i + 1) s o h)

  -- the solvable's first variable, at the end
  pub place_new : (os : List (VariableOrigin N S)) (i : ℕ) (s : S) (o : VariableOrigin N S) → is_of eq s o ≡ true → place_from eq i s os ≡ None → place_from eq i s (os ++ o ∷ []) ≡ Some (i + length os)
  place_new [] i s o h none = ap (λ b. cond b (Some i) None) h ∙ ap (λ (n : ℕ). Some n) (let e : i ≡ i + 0 = omega arith in e)
  place_new (x ∷ os) i s o h none = go (is_of eq s x) none (place_new os (i + 1) s o h)
    where
      go : (b : Bool) → cond b (Some i) (place_from eq (i + 1) s os) ≡ None → (place_from eq (i + 1) s os ≡ None → place_from eq (i + 1) s (os ++ o ∷ []) ≡ Some (i + 1 + length os)) → cond b (Some i) (place_from eq (i + 1) s (os ++ o ∷ [])) ≡ Some (i + length (x ∷ os))
      go true k more = cc
      go false k more = more k ∙ ap (λ (n : ℕ). Some n) (let e : i + 1 + length os ≡ i + length (x ∷ os) = omega arith in e)

  pub numbers_other : (os : List (VariableOrigin N S)) (number : S → Option ℕ) (o : VariableOrigin N S) → AreNumbers eq os number → ((s : S) → is_of eq s o ≡ false) → AreNumbers eq (os ++ o ∷ []) number
  numbers_other os number o are h s = are s ∙ sym (place_other os 0 s o (h s))

  pub numbers_new : ((x y : S) → eq x y ≡ true → x ≡ y) → (os : List (VariableOrigin N S)) (number number' : S → Option ℕ) (s : S) (n : ℕ) → AreNumbers eq os number → number s ≡ None → n ≡ length os → ((q : S) → number' q ≡ cond (eq s q) (Some n) (number q)) → AreNumbers eq (os ++ Solvable s ∷ []) number'
  numbers_new exact os number number' s n are none is put q = go (cases_Bool (eq s q)) (cases_Bool (eq q s))
    where
      open_ : place_of eq s os ≡ None
      open_ = sym (are s) ∙ none

      go : (eq s q ≡ true) ⊎ (eq s q ≡ false) → (eq q s ≡ true) ⊎ (eq q s ≡ false) → number' q ≡ place_of eq q (os ++ Solvable s ∷ [])
      go (inl a) (inl b) =
          let same : s ≡ q = exact s q a in
          let put' : number' q ≡ Some n = put q ∙ ap (λ c. cond c (Some n) (number q)) a in
          put' ∙ ap (λ (m : ℕ). Some m) is ∙ sym (place_new os 0 q (Solvable s) b (subst (λ (x : S). place_of eq x os ≡ None) same open_) ∙ ap (λ (m : ℕ). Some m) (let e : 0 + length os ≡ length os = omega arith in e))
      go (inl a) (inr b) =
          let same : s ≡ q = exact s q a in
          absurd (both_ways (eq q s) b (subst (λ (x : S). eq x s ≡ true) same (subst (λ (x : S). eq s x ≡ true) (sym same) a)))
      go (inr a) (inl b) =
          let same : q ≡ s = exact q s b in
          absurd (both_ways (eq s q) a (subst (λ (x : S). eq x q ≡ true) same (subst (λ (x : S). eq q x ≡ true) (sym same) b)))
      go (inr a) (inr b) =
          put q ∙ ap (λ c. cond c (Some n) (number q)) a ∙ are q ∙ sym (place_other os 0 q (Solvable s) b)
