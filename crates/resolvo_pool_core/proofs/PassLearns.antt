-- Resolution preserves one pass, so that learnt clauses have hints.
use Rattle.std.proofs.Common.{◌≡◌, ◌⊎◌, inl, inr, Bool, true, false, List, [], ◌∷◌, Option, Some, None, refl, sym, ap, subst, ◌∙◌, cond}
use Rattle.std.specs.Prelude.{not, ◌||◌, is_none}
use Rattle.std.specs.List.{list_all}
use Rattle.std.specs.Bool.{beq}
use Rattle.std.proofs.lemmas.Bool.{false≢true, or_cases, or_left, or_right, and_parts, and_from}
use Rattle.resolvo_pool_core.specs.OnePass.Rest.{last, more}
use Rattle.resolvo_pool_core.specs.OnePass.{Literal, negate, is_denied, same_literal, has, assign, deny, rest_of, without_false, is_broken, learn, refutes, nothing, one_pass, IsFalseUnder, RefutesFrom, HasNoOpposites}

both : (b : Bool) → b ≡ false → b ≡ true → ⊥
both b f t = false≢true (sym f ∙ t)

same_sign : (a b : Bool) → beq a b ≡ true → a ≡ b
same_sign true true h = refl
same_sign false false h = refl
same_sign true false h = absurd (false≢true h)
same_sign false true h = absurd (false≢true h)

sign_own : (a : Bool) → beq a a ≡ true
sign_own true = refl
sign_own false = refl

other_sign : (a : Bool) → beq a (not a) ≡ false
other_sign true = refl
other_sign false = refl

-- an atom of this value denies the literal of the other sign
denies_other : (v p : Bool) → not (beq v p) ≡ false → not (beq v (not p)) ≡ true
denies_other true true h = refl
denies_other false false h = refl
denies_other true false h = absurd (false≢true (sym h))
denies_other false true h = absurd (false≢true (sym h))

module _ {A : Type 0} (same : A → A → Bool) (exact : (a b : A) → same a b ≡ true → a ≡ b) (own : (a : A) → same a a ≡ true) where
  -- equal literals are one literal
  pub literal_is : (l m : Literal A) → same_literal same l m ≡ true → l ≡ m
  literal_is l m h =
      let parts = and_parts (same l.atom m.atom) (beq l.positive m.positive) h in
      let a : l.atom ≡ m.atom = exact l.atom m.atom parts.0 in
      let s : l.positive ≡ m.positive = same_sign l.positive m.positive parts.1 in
      λ i. record { atom = a i; positive = s i }

  pub literal_own : (l : Literal A) → same_literal same l l ≡ true
  literal_own l = and_from _ _ (own l.atom) (sign_own l.positive)

  has-cons : (x : Literal A) (xs : List (Literal A)) (l : Literal A) → has same (x ∷ xs) l ≡ true → (x ≡ l) ⊎ (has same xs l ≡ true)
  has-cons x xs l h = elim (or_cases (same_literal same x l) (has same xs l) h) [ inl e ↦ inl (literal_is x l e) | inr e ↦ inr e ]

  has_here : (x : Literal A) (xs : List (Literal A)) → has same (x ∷ xs) x ≡ true
  has_here x xs = or_left _ _ (literal_own x)

  has_later : (x : Literal A) (xs : List (Literal A)) (l : Literal A) → has same xs l ≡ true → has same (x ∷ xs) l ≡ true
  has_later x xs l h = or_right _ _ h

  -- a literal that is left is in the clause, and is not false
  left_from : (known : A → Option Bool) (c : List (Literal A)) (l : Literal A) → has same (without_false known c) l ≡ true → (has same c l ≡ true) × (is_denied (known l.atom) l.positive ≡ false)
  left_from known [] l h = absurd (false≢true h)
  left_from known (x ∷ xs) l h = go (is_denied (known x.atom) x.positive) refl (left_from known xs l) h
    where
      later : (has same xs l ≡ true) × (is_denied (known l.atom) l.positive ≡ false) → (has same (x ∷ xs) l ≡ true) × (is_denied (known l.atom) l.positive ≡ false)
      later r = (has_later x xs l r.0, r.1)

      go : (b : Bool) → is_denied (known x.atom) x.positive ≡ b → (has same (without_false known xs) l ≡ true → (has same xs l ≡ true) × (is_denied (known l.atom) l.positive ≡ false)) → has same (cond (not b) (x ∷ without_false known xs) (without_false known xs)) l ≡ true → (has same (x ∷ xs) l ≡ true) × (is_denied (known l.atom) l.positive ≡ false)
      go true e ih g = later (ih g)
      go false e ih g = elim (has-cons x (without_false known xs) l g) [
        | inl i ↦ (subst (λ (m : Literal A). has same (x ∷ xs) m ≡ true) i (has_here x xs), subst (λ (m : Literal A). is_denied (known m.atom) m.positive ≡ false) i e)
        | inr i ↦ later (ih i)
      ]

  -- literals each of which is l are one
  all_one : (l : Literal A) (ms : List (Literal A)) → ((m : Literal A) → has same ms m ≡ true → m ≡ l) → list_all (same_literal same l) ms ≡ true
  all_one l [] h = refl
  all_one l (m ∷ ms) h =
      and_from _ _
      (subst (λ (x : Literal A). same_literal same l x ≡ true) (sym (h m (has_here m ms))) (literal_own l))
      (all_one l ms (λ x i. h x (has_later m ms x i)))

  -- known values stay when a literal without a value is made true
  stays : (known : A → Option Bool) (p l : Literal A) → known p.atom ≡ None → is_denied (known l.atom) l.positive ≡ true → is_denied (assign same known p l.atom) l.positive ≡ true
  stays known p l none h = go (same l.atom p.atom) refl
    where
      go : (b : Bool) → same l.atom p.atom ≡ b → is_denied (cond b (Some p.positive) (known l.atom)) l.positive ≡ true
      go false e = h
      go true e =
          let k : known l.atom ≡ None = ap known (exact l.atom p.atom e) ∙ none in
          absurd (false≢true (sym (ap (λ o. is_denied o l.positive) k) ∙ h))

  -- after a literal is made true its negation is false, and false literals stay false
  learnt : (known : A → Option Bool) (p : Literal A) → is_denied (known p.atom) p.positive ≡ false → (is_denied (learn same known (last p) p.atom) (not p.positive) ≡ true) × ((l : Literal A) → is_denied (known l.atom) l.positive ≡ true → is_denied (learn same known (last p) l.atom) l.positive ≡ true)
  learnt known p free = go (known p.atom) refl free
    where
      go : (o : Option Bool) → known p.atom ≡ o → is_denied o p.positive ≡ false → (is_denied (cond (is_none o) (assign same known p) known p.atom) (not p.positive) ≡ true) × ((l : Literal A) → is_denied (known l.atom) l.positive ≡ true → is_denied (cond (is_none o) (assign same known p) known l.atom) l.positive ≡ true)
      go None e f = (ap (λ b. is_denied (cond b (Some p.positive) (known p.atom)) (not p.positive)) (own p.atom) ∙ ap not (other_sign p.positive), λ l h. stays known p l e h)
      go (Some v) e f = (ap (λ o. is_denied o (not p.positive)) e ∙ denies_other v p.positive f, λ l h. h)

  -- Resolution. The pass over cs refutes whatever makes the old clause false. If each literal of the
  -- old one but not p, and each literal of c but p, is in the new one, then c and cs refute
  -- whatever makes the new one false.
  pub resolve_step : (old new c : List (Literal A)) (p : Literal A) (cs : List (List (Literal A)))
      → ((l : Literal A) → has same old l ≡ true → (l ≡ negate p) ⊎ (has same new l ≡ true))
      → ((l : Literal A) → has same c l ≡ true → (l ≡ p) ⊎ (has same new l ≡ true))
      → RefutesFrom same old cs → RefutesFrom same new (c ∷ cs)
  resolve_step old new c p cs from_old from_c before known false_new = go (without_false known c) (λ l h. left_from known c l h)
    where
      is_p : (l : Literal A) → has same c l ≡ true → is_denied (known l.atom) l.positive ≡ false → l ≡ p
      is_p l h free = elim (from_c l h) [ inl e ↦ e | inr n ↦ absurd (both _ free (false_new l n)) ]

      go : (rest : List (Literal A)) → ((l : Literal A) → has same rest l ≡ true → (has same c l ≡ true) × (is_denied (known l.atom) l.positive ≡ false)) → (is_broken (rest_of same rest) || refutes same (learn same known (rest_of same rest)) cs) ≡ true
      go [] a = refl
      go (x ∷ xs) a =
          let x_is : x ≡ p = is_p x (a x (has_here x xs)).0 (a x (has_here x xs)).1 in
          let one = all_one x xs (λ m i. is_p m (a m (has_later x xs m i)).0 (a m (has_later x xs m i)).1 ∙ sym x_is) in
          let free : is_denied (known p.atom) p.positive ≡ false = subst (λ (l : Literal A). is_denied (known l.atom) l.positive ≡ false) x_is (a x (has_here x xs)).1 in
          let known_after = learnt known p free in
          let goes : refutes same (learn same known (last p)) cs ≡ true = before (learn same known (last p)) (λ l h. elim (from_old l h) [
            | inl e ↦ subst (λ (m : Literal A). is_denied (learn same known (last p) m.atom) m.positive ≡ true) (sym e) known_after.0
            | inr n ↦ known_after.1 l (false_new l n)
          ]) in
          ap (λ b. is_broken (cond b (last x) more) || refutes same (learn same known (cond b (last x) more)) cs) one ∙ (ap (λ (l : Literal A). refutes same (learn same known (last l)) cs) x_is ∙ goes)

  -- the pass over one clause refutes whatever makes it false
  pub falsified_refutes : (c : List (Literal A)) → RefutesFrom same c (c ∷ [])
  falsified_refutes c known false_c = go (without_false known c) (λ l h. let r = left_from known c l h in both _ r.1 (false_c l r.0))
    where
      go : (rest : List (Literal A)) → ((l : Literal A) → has same rest l ≡ true → ⊥) → (is_broken (rest_of same rest) || refutes same (learn same known (rest_of same rest)) []) ≡ true
      go [] a = refl
      go (x ∷ xs) a = absurd (a x (has_here x xs))

  -- denying literals of other atoms leaves the value of an atom
  untouched : (known : A → Option Bool) (a : A) (ls : List (Literal A)) → ((l : Literal A) → has same ls l ≡ true → same a l.atom ≡ false) → deny same known ls a ≡ known a
  untouched known a [] other = refl
  untouched known a (l ∷ ls) other =
      untouched (assign same known (negate l)) a ls (λ m h. other m (has_later l ls m h))
      ∙ ap (λ b. cond b (Some (not l.positive)) (known a)) (other l (has_here l ls))

  -- a literal and its negation are all the literals of an atom
  two_signs : (l m : Literal A) → l.atom ≡ m.atom → (m ≡ l) ⊎ (m ≡ negate l)
  two_signs l m e = go l.positive m.positive refl refl
    where
      go : (p q : Bool) → l.positive ≡ p → m.positive ≡ q → (m ≡ l) ⊎ (m ≡ negate l)
      go true true f g = inl (λ i. record { atom = sym e i; positive = (g ∙ sym f) i })
      go false false f g = inl (λ i. record { atom = sym e i; positive = (g ∙ sym f) i })
      go true false f g = inr (λ i. record { atom = sym e i; positive = (g ∙ sym (ap not f)) i })
      go false true f g = inr (λ i. record { atom = sym e i; positive = (g ∙ sym (ap not f)) i })

  -- denying a clause without opposites makes each of its literals false
  denied_all : (known : A → Option Bool) (c : List (Literal A)) → HasNoOpposites same c → IsFalseUnder same (deny same known c) c
  denied_all known [] apart l h = absurd (false≢true h)
  denied_all known (x ∷ xs) apart l h = go (has same xs l) refl (denied_all (assign same known (negate x)) xs tail_apart l) (has-cons x xs l h)
    where
      tail_apart : HasNoOpposites same xs
      tail_apart m i = none (same_literal same x (negate m)) (has same xs (negate m)) (apart m (has_later x xs m i))
        where
          none : (a b : Bool) → (a || b) ≡ false → b ≡ false
          none true b e = absurd (false≢true (sym e))
          none false b e = e

      go : (b : Bool) → has same xs l ≡ b → (has same xs l ≡ true → is_denied (deny same (assign same known (negate x)) xs l.atom) l.positive ≡ true) → (x ≡ l) ⊎ (has same xs l ≡ true) → is_denied (deny same (assign same known (negate x)) xs l.atom) l.positive ≡ true
      go true e ih w = ih e
      go false e ih (inr i) = absurd (both _ e i)
      go false e ih (inl i) =
          let gone : (m : Literal A) → has same xs m ≡ true → same l.atom m.atom ≡ false = λ m j. other m j (same l.atom m.atom) refl in
          let value : deny same (assign same known (negate x)) xs l.atom ≡ assign same known (negate x) l.atom = untouched (assign same known (negate x)) l.atom xs gone in
          let mine : assign same known (negate x) l.atom ≡ Some (not l.positive) = subst (λ (y : Literal A). assign same known (negate y) l.atom ≡ Some (not l.positive)) (sym i) (ap (λ b. cond b (Some (not l.positive)) (known l.atom)) (own l.atom)) in
          ap (λ o. is_denied o l.positive) (value ∙ mine) ∙ opposite l.positive
        where
          opposite : (p : Bool) → not (beq (not p) p) ≡ true
          opposite true = refl
          opposite false = refl

          other : (m : Literal A) → has same xs m ≡ true → (b : Bool) → same l.atom m.atom ≡ b → same l.atom m.atom ≡ false
          other m j false f = f
          other m j true f = elim (two_signs l m (exact l.atom m.atom f)) [
            | inl k ↦ absurd (both _ e (subst (λ (y : Literal A). has same xs y ≡ true) k j))
            | inr k ↦ absurd (both _ (apart l h) (has_later x xs (negate l) (subst (λ (y : Literal A). has same xs y ≡ true) k j)))
          ]

  -- clauses refuted under all values that falsify the clause are refuted by the pass that denies it
  pub refuted_from : (c : List (Literal A)) (cs : List (List (Literal A))) → HasNoOpposites same c → RefutesFrom same c cs → one_pass same c cs ≡ true
  refuted_from c cs apart r = r (deny same nothing c) (denied_all nothing c apart)
