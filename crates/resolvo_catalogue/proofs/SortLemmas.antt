-- What is sorted by a number has the same elements, in order. Where those with one number keep their order, it is one list.
use Rattle.std.proofs.Common.{◌≡◌, ◌⊎◌, inl, inr, ℕ, zero, suc, ◌<◌, ◌≤◌, ◌==◌, ◌&&◌, not, Bool, true, false, cond, List, [], ◌∷◌, length, get_or, refl, sym, ap, subst, ◌∙◌, arith}
use Rattle.std.specs.Prelude.{⊤, nat_lt, Contains, filter}
use Rattle.std.specs.Bool.{Decides}
use Rattle.std.specs.Ordering.{nat_cmp, is_lt}
use Rattle.std.specs.declared.cmp.Ordering.TheVariants.{Less, Equal, Greater}
use Rattle.std.specs.List.Sorted.{IsPermutation, IsNonDecreasingBy, IsStableByKey, ties}
use Rattle.std.proofs.lemmas.Bool.{false≢true, ltb-true, ltb-false}
use Rattle.std.proofs.lemmas.List.Elements.{Contains-get_or}
use Rattle.std.proofs.lemmas.List.Sorted.{Contains-permutation, IsPermutation-refl, IsPermutation-cons, IsPermutation-trans, IsPermutation-swap, IsPermutation-sym}
use Rattle.std.proofs.lemmas.Option.{slice_get_within, get_or_from_slice_get}
use Rattle.resolvo_terms.proofs.Places.{at_from_contains, no_element, first_element, later_element, element_cases}
use Rattle.resolvo_catalogue.specs.Sorted.{placed, sorted_by}

-- ---- parts of lists

pub filter_from : {X : Type 0} (t : X → Bool) (xs : List X) (x : X) → Contains (filter t xs) x → Contains xs x × (t x ≡ true)
filter_from t [] x h = absurd (no_element x h)
filter_from {X} t (y ∷ ys) x h = go (t y) refl h (filter_from t ys x)
  where
    go : (b : Bool) → t y ≡ b → Contains (cond b (y ∷ filter t ys) (filter t ys)) x → (Contains (filter t ys) x → Contains ys x × (t x ≡ true)) → Contains (y ∷ ys) x × (t x ≡ true)
    go true e c rest = elim (element_cases y (filter t ys) x c) [
      | inl is ↦ (subst (λ z. Contains (y ∷ ys) z) is (first_element y ys), sym (ap t is) ∙ e)
      | inr m ↦ let r = rest m in (later_element y ys x r.0, r.1)
    ]
    go false e c rest = let r = rest c in (later_element y ys x r.0, r.1)

pub same_tail : {X : Type 0} (x y : X) (xs ys : List X) → x ∷ xs ≡ y ∷ ys → (x ≡ y) × (xs ≡ ys)
same_tail x y xs ys e = (cc, cc)

-- ---- lists in order

-- no element is less than those before it
abbrev pub Rises : {X : Type 0} → (X → ℕ) → List X → Type 0
Rises age [] = ⊤
Rises {X} age (y ∷ ys) = ((z : X) → Contains ys z → age y ≤ age z) × Rises age ys

pub rises : {X : Type 0} (age : X → ℕ) (xs : List X) → IsNonDecreasingBy age xs → Rises age xs
rises age [] h = tt
rises {X} age (y ∷ ys) h = (
  λ z c.
      let (k, at) = at_from_contains ys z c in
      let below : k < length ys = slice_get_within ys k z at in
      let up : age y ≤ age (get_or ys k y) = h 0 (suc k) y (omega arith) (omega arith) in
      subst (λ x. age y ≤ age x) (get_or_from_slice_get ys k z y at) up,
  rises age ys (λ i j d le lt. h (suc i) (suc j) d (omega arith) (omega arith)),
)

pub falls : {X : Type 0} (age : X → ℕ) (xs : List X) → Rises age xs → IsNonDecreasingBy age xs
falls age [] h i j d le lt = absurd (omega arith)
falls age (x ∷ xs) h zero zero d le lt = omega arith
falls age (x ∷ xs) h zero (suc j) d le lt = h.0 (get_or xs j d) (Contains-get_or xs j d (omega arith))
falls age (x ∷ xs) h (suc i) zero d le lt = absurd (omega arith)
falls age (x ∷ xs) h (suc i) (suc j) d le lt = falls age xs h.1 i j d (omega arith) (omega arith)

placed_permutes : {X : Type 0} (age : X → ℕ) (x : X) (ys : List X) → IsPermutation (x ∷ ys) (placed age x ys)
placed_permutes age x [] = IsPermutation-refl (x ∷ [])
placed_permutes {X} age x (y ∷ ys) = go (nat_lt (age y) (age x)) (placed_permutes age x ys)
  where
    go : (b : Bool) → IsPermutation (x ∷ ys) (placed age x ys) → IsPermutation (x ∷ y ∷ ys) (cond b (y ∷ placed age x ys) (x ∷ y ∷ ys))
    go true rest = IsPermutation-trans (x ∷ y ∷ ys) (y ∷ x ∷ ys) (y ∷ placed age x ys) (IsPermutation-swap (x ∷ y ∷ ys) (y ∷ x ∷ ys) 0 1 (omega arith) (omega arith) refl) (IsPermutation-cons y (x ∷ ys) (placed age x ys) rest)
    go false rest = IsPermutation-refl (x ∷ y ∷ ys)

pub sorted_permutes : {X : Type 0} (age : X → ℕ) (xs : List X) → IsPermutation xs (sorted_by age xs)
sorted_permutes age [] = IsPermutation-refl []
sorted_permutes age (x ∷ xs) = IsPermutation-trans (x ∷ xs) (x ∷ sorted_by age xs) (placed age x (sorted_by age xs)) (IsPermutation-cons x xs (sorted_by age xs) (sorted_permutes age xs)) (placed_permutes age x (sorted_by age xs))

placed_rises : {X : Type 0} (age : X → ℕ) (x : X) (ys : List X) → Rises age ys → Rises age (placed age x ys)
placed_rises age x [] h = ((λ z c. absurd (no_element z c)), tt)
placed_rises {X} age x (y ∷ ys) h = go (nat_lt (age y) (age x)) refl (placed_rises age x ys h.1)
  where
    go : (b : Bool) → nat_lt (age y) (age x) ≡ b → Rises age (placed age x ys) → Rises age (cond b (y ∷ placed age x ys) (x ∷ y ∷ ys))
    go true e rest = (
      λ z c. elim (element_cases x ys z (Contains-permutation (placed age x ys) (x ∷ ys) z (IsPermutation-sym (x ∷ ys) (placed age x ys) (placed_permutes age x ys)) c)) [
        | inl is ↦ (let low : age y < age x = ltb-true (age y) (age x) e in subst (λ w. age y ≤ age w) is (omega arith))
        | inr m ↦ h.0 z m
      ],
      rest,
    )
    go false e rest =
        let high = ltb-false (age y) (age x) e in (
          λ z c. elim (element_cases y ys z c) [
            | inl is ↦ subst (λ w. age x ≤ age w) is (omega (arith, high))
            | inr m ↦ (let up : age y ≤ age z = h.0 z m in omega (arith, high))
          ],
          h,
        )

pub sorted_rises : {X : Type 0} (age : X → ℕ) (xs : List X) → Rises age (sorted_by age xs)
sorted_rises age [] = tt
sorted_rises age (x ∷ xs) = placed_rises age x (sorted_by age xs) (sorted_rises age xs)

pub sorted_to : {X : Type 0} (age : X → ℕ) (xs : List X) (x : X) → Contains xs x → Contains (sorted_by age xs) x
sorted_to age xs x h = Contains-permutation xs (sorted_by age xs) x (sorted_permutes age xs) h

pub sorted_from : {X : Type 0} (age : X → ℕ) (xs : List X) (x : X) → Contains (sorted_by age xs) x → Contains xs x
sorted_from age xs x h = Contains-permutation (sorted_by age xs) xs x (IsPermutation-sym xs (sorted_by age xs) (sorted_permutes age xs)) h

-- ---- those with one number

filter_to : {X : Type 0} (t : X → Bool) (xs : List X) (x : X) → Contains xs x → t x ≡ true → Contains (filter t xs) x
filter_to t [] x h e = absurd (no_element x h)
filter_to {X} t (y ∷ ys) x h e = go (t y) refl (element_cases y ys x h) (λ m. filter_to t ys x m e)
  where
    go : (b : Bool) → t y ≡ b → (y ≡ x) ⊎ Contains ys x → (Contains ys x → Contains (filter t ys) x) → Contains (cond b (y ∷ filter t ys) (filter t ys)) x
    go true f (inl is) rest = subst (λ z. Contains (y ∷ filter t ys) z) is (first_element y (filter t ys))
    go true f (inr m) rest = later_element y (filter t ys) x (rest m)
    go false f (inl is) rest = absurd (false≢true (sym f ∙ ap t is ∙ e))
    go false f (inr m) rest = rest m

module _ {X : Type 0} (age : X → ℕ) (t : X → X → Bool) (level : (w x : X) → Decides (t w x) (age w ≡ age x)) where
  -- a list of one number keeps its order where an element is placed
  placed_stable : (w x : X) (ys : List X) → filter (t w) (placed age x ys) ≡ filter (t w) (x ∷ ys)
  placed_stable w x [] = refl
  placed_stable w x (y ∷ ys) = go (nat_lt (age y) (age x)) refl (placed_stable w x ys)
    where
      both : (a b : Bool) (zs : List X) → (a ≡ true → b ≡ true → ⊥) → cond a (y ∷ cond b (x ∷ zs) zs) (cond b (x ∷ zs) zs) ≡ cond b (x ∷ cond a (y ∷ zs) zs) (cond a (y ∷ zs) zs)
      both true true zs apart = absurd (apart refl refl)
      both true false zs apart = refl
      both false true zs apart = refl
      both false false zs apart = refl

      go : (b : Bool) → nat_lt (age y) (age x) ≡ b → filter (t w) (placed age x ys) ≡ filter (t w) (x ∷ ys) → filter (t w) (cond b (y ∷ placed age x ys) (x ∷ y ∷ ys)) ≡ filter (t w) (x ∷ y ∷ ys)
      go true e rest =
          ap (λ (zs : List X). cond (t w y) (y ∷ zs) zs) rest
          ∙ both (t w y) (t w x) (filter (t w) ys) (λ f g. let low : age y < age x = ltb-true (age y) (age x) e in let a : age w ≡ age y = (level w y).0 f in let b : age w ≡ age x = (level w x).0 g in omega arith)
      go false e rest = refl

  sorted_stable : (w : X) (xs : List X) → filter (t w) (sorted_by age xs) ≡ filter (t w) xs
  sorted_stable w [] = refl
  sorted_stable w (x ∷ xs) = placed_stable w x (sorted_by age xs) ∙ ap (λ (zs : List X). cond (t w x) (x ∷ zs) zs) (sorted_stable w xs)

  own : (x : X) → t x x ≡ true
  own x = (level x x).1 refl

  -- Two lists in order, alike in those of each number, are one.
  one_order : (xs ys : List X) → Rises age xs → Rises age ys → ((w : X) → filter (t w) xs ≡ filter (t w) ys) → xs ≡ ys
  one_order [] [] up down alike = refl
  one_order [] (y ∷ ys) up down alike = absurd (no_element y (subst (λ (zs : List X). Contains zs y) (sym (alike y)) (filter_to (t y) (y ∷ ys) y (first_element y ys) (own y))))
  one_order (x ∷ xs) [] up down alike = absurd (no_element x (subst (λ (zs : List X). Contains zs x) (alike x) (filter_to (t x) (x ∷ xs) x (first_element x xs) (own x))))
  one_order (x ∷ xs) (y ∷ ys) up down alike = ap (λ z. z ∷ xs) same ∙ ap (λ zs. y ∷ zs) (one_order xs ys up.1 down.1 rest)
    where
      -- the first of a list in order is no greater than one in it
      least : (z : X) (zs : List X) → Rises age (z ∷ zs) → (v : X) → Contains (z ∷ zs) v → age z ≤ age v
      least z zs h v c = elim (element_cases z zs v c) [ inl is ↦ subst (λ u. age z ≤ age u) is (omega arith) | inr m ↦ h.0 v m ]

      high : age y ≤ age x
      high = least y ys down x (filter_from (t x) (y ∷ ys) x (subst (λ (zs : List X). Contains zs x) (alike x) (filter_to (t x) (x ∷ xs) x (first_element x xs) (own x)))).0

      low : age x ≤ age y
      low = least x xs up y (filter_from (t y) (x ∷ xs) y (subst (λ (zs : List X). Contains zs y) (sym (alike y)) (filter_to (t y) (y ∷ ys) y (first_element y ys) (own y)))).0

      beside : t x y ≡ true
      beside = (level x y).1 (let a = high in let b = low in omega arith)

      heads : (a b : Bool) (zs ws : List X) → a ≡ true → b ≡ true → cond a (x ∷ zs) zs ≡ cond b (y ∷ ws) ws → x ≡ y
      heads true true zs ws p q e = (same_tail x y zs ws e).0
      heads false b zs ws p q e = absurd (false≢true p)
      heads true false zs ws p q e = absurd (false≢true q)

      same : x ≡ y
      same = heads (t x x) (t x y) (filter (t x) xs) (filter (t x) ys) (own x) beside (alike x)

      tails : (b : Bool) (zs ws : List X) → cond b (x ∷ zs) zs ≡ cond b (y ∷ ws) ws → zs ≡ ws
      tails true zs ws e = (same_tail x y zs ws e).1
      tails false zs ws e = e

      rest : (w : X) → filter (t w) xs ≡ filter (t w) ys
      rest w = tails (t w x) (filter (t w) xs) (filter (t w) ys) (alike w ∙ ap (λ (c : Bool). cond c (y ∷ filter (t w) ys) (filter (t w) ys)) (ap (t w) (sym same)))

is_less : (l e : Bool) → is_lt (cond l Less (cond e Equal Greater)) ≡ l
is_less true e = refl
is_less false true = refl
is_less false false = refl

less_is : (a b : ℕ) → is_lt (nat_cmp a b) ≡ nat_lt a b
less_is a b = is_less (nat_lt a b) (a == b)

-- two numbers, neither of them below the other, are one
level_ties : (a b : ℕ) → Decides (not (is_lt (nat_cmp a b)) && not (is_lt (nat_cmp b a))) (a ≡ b)
level_ties a b = rw (less_is a b, less_is b a) (go (nat_lt a b) (nat_lt b a) refl refl)
  where
    go : (l m : Bool) → nat_lt a b ≡ l → nat_lt b a ≡ m → Decides (not l && not m) (a ≡ b)
    go true m p q = (λ e. absurd (false≢true e), λ e. absurd (let low : a < b = ltb-true a b p in omega arith))
    go false true p q = (λ e. absurd (false≢true e), λ e. absurd (let low : b < a = ltb-true b a q in omega arith))
    go false false p q = (λ e. let h = ltb-false a b p in let k = ltb-false b a q in omega (arith, h, k), λ e. refl)

-- What a stable sort by a number gives is the list sorted by it.
pub sorted_is : {X : Type 0} (age : X → ℕ) (xs ys : List X) → IsNonDecreasingBy age ys → IsStableByKey age nat_cmp xs ys → ys ≡ sorted_by age xs
sorted_is {X} age xs ys up stable =
    let t : X → X → Bool = ties (λ x y. is_lt (nat_cmp (age x) (age y))) in
    one_order age t (λ w x. level_ties (age w) (age x)) ys (sorted_by age xs) (rises age ys up) (sorted_rises age xs) (λ w. stable w ∙ sym (sorted_stable age t (λ w x. level_ties (age w) (age x)) w xs))
