-- Lemmas on lists by place.
use Rattle.std.proofs.Common.{◌≡◌, ℕ, zero, suc, ◌+◌, ◌<◌, ◌≤◌, ◌⊎◌, inl, inr, List, [], ◌∷◌, ◌++◌, map, length, Some, refl, sym, ◌∙◌, ap, subst, arith}
use Rattle.std.specs.Prelude.{slice_get, slice_set, Contains}
use Rattle.std.proofs.lemmas.List.{length-append}
use Rattle.resolvo_store_core.specs.AtMostOne.{IsPrefixOf}
use Rattle.resolvo_sat.proofs.Lists.{contains_first, contains_later, contains_none, contains_cases}
use Rattle.resolvo_state.specs.Keys.{AreOnce}

pub get_in_prefix : {X : Type 0} (xs ys : List X) (k : ℕ) (x : X) → slice_get xs k ≡ Some x → slice_get (xs ++ ys) k ≡ Some x
get_in_prefix [] ys k x h = absurd cc
get_in_prefix (z ∷ xs) ys zero x h = h
get_in_prefix (z ∷ xs) ys (suc k) x h = get_in_prefix xs ys k x h

-- an old place of a longer list
pub get_old : {X : Type 0} (xs ys : List X) (k : ℕ) (x : X) → k < length xs → slice_get (xs ++ ys) k ≡ Some x → slice_get xs k ≡ Some x
get_old [] ys k x below h = absurd (omega arith)
get_old (z ∷ xs) ys zero x below h = h
get_old (z ∷ xs) ys (suc k) x below h = get_old xs ys k x (omega arith) h

pub get_last : {X : Type 0} (xs : List X) (x : X) → slice_get (xs ++ x ∷ []) (length xs) ≡ Some x
get_last [] x = refl
get_last (z ∷ xs) x = get_last xs x

-- an item of a list with one more at its end
pub get_push : {X : Type 0} (xs : List X) (y x : X) (k : ℕ) → slice_get (xs ++ y ∷ []) k ≡ Some x → (slice_get xs k ≡ Some x) ⊎ ((k ≡ length xs) × (x ≡ y))
get_push [] y x zero h = inr (refl, cc)
get_push [] y x (suc k) h = absurd cc
get_push (z ∷ xs) y x zero h = inl h
get_push (z ∷ xs) y x (suc k) h = elim (get_push xs y x k h) [ inl a ↦ inl a | inr (e, i) ↦ inr (ap suc e, i) ]

pub get_contains : {X : Type 0} (xs : List X) (k : ℕ) (x : X) → slice_get xs k ≡ Some x → Contains xs x
get_contains [] k x h = absurd cc
get_contains (z ∷ xs) zero x h = contains_first x z xs cc
get_contains (z ∷ xs) (suc k) x h = contains_later x z xs (get_contains xs k x h)

pub contains_get : {X : Type 0} (xs : List X) (x : X) → Contains xs x → (k : ℕ) × (slice_get xs k ≡ Some x)
contains_get [] x h = absurd (contains_none x h)
contains_get (z ∷ xs) x h = elim (contains_cases x z xs h) [ inl e ↦ (0, ap Some (sym e)) | inr a ↦ let (k, at) = contains_get xs x a in (suc k, at) ]

-- each place below the length has an item
pub get_below : {X : Type 0} (xs : List X) (k : ℕ) → k < length xs → (x : X) × (slice_get xs k ≡ Some x)
get_below [] k below = absurd (omega arith)
get_below (z ∷ xs) zero below = (z, refl)
get_below (z ∷ xs) (suc k) below = get_below xs k (omega arith)

pub prefix_get : {X : Type 0} (xs ys : List X) (k : ℕ) (x : X) → IsPrefixOf xs ys → slice_get xs k ≡ Some x → slice_get ys k ≡ Some x
prefix_get xs ys k x (more, e) h = subst (λ zs. slice_get zs k ≡ Some x) (sym e) (get_in_prefix xs more k x h)

pub prefix_same : {X : Type 0} (xs : List X) → IsPrefixOf xs xs
prefix_same xs = ([], sym (append_none xs))
  where
    append_none : {X : Type 0} (ys : List X) → ys ++ [] ≡ ys
    append_none [] = refl
    append_none (y ∷ ys) = ap (λ zs. y ∷ zs) (append_none ys)

pub prefix_equal : {X : Type 0} (xs ys : List X) → ys ≡ xs → IsPrefixOf xs ys
prefix_equal xs ys e = subst (IsPrefixOf xs) (sym e) (prefix_same xs)

pub prefix_then : {X : Type 0} (xs ys zs : List X) → IsPrefixOf xs ys → IsPrefixOf ys zs → IsPrefixOf xs zs
prefix_then xs ys zs (a, e) (b, f) = (a ++ b, f ∙ ap (λ (ws : List _). ws ++ b) e ∙ joined xs a b)
  where
    joined : {X : Type 0} (us vs ws : List X) → (us ++ vs) ++ ws ≡ us ++ (vs ++ ws)
    joined [] vs ws = refl
    joined (u ∷ us) vs ws = ap (λ zs. u ∷ zs) (joined us vs ws)

pub prefix_long : {X : Type 0} (xs ys : List X) → IsPrefixOf xs ys → length xs ≤ length ys
prefix_long xs ys (more, e) = let a : length ys ≡ length (xs ++ more) = ap length e in let b : length (xs ++ more) ≡ length xs + length more = length-append xs more in omega arith

pub once_none : {X : Type 0} (xs : List X) → xs ≡ [] → AreOnce xs
once_none xs e i j x a b = let f : slice_get [] i ≡ Some x = subst (λ ys. slice_get ys i ≡ Some x) e a in absurd cc

-- a value that is not in the list is appended
pub once_push : {X : Type 0} (xs : List X) (y : X) → AreOnce xs → ((k : ℕ) → slice_get xs k ≡ Some y → ⊥) → AreOnce (xs ++ y ∷ [])
once_push xs y once fresh i j x a b = elim (get_push xs y x i a) [
  | inl p ↦ elim (get_push xs y x j b) [
    | inl q ↦ once i j x p q
    | inr (e, is) ↦ absurd (fresh i (p ∙ ap Some is))
  ]
  | inr (d, is) ↦ elim (get_push xs y x j b) [
    | inl q ↦ absurd (fresh j (q ∙ ap Some is))
    | inr (e, is) ↦ d ∙ sym e
  ]
]

-- a place that is written, and the others
pub get_set_here : {X : Type 0} (xs : List X) (i : ℕ) (y : X) → i < length xs → slice_get (slice_set xs i y) i ≡ Some y
get_set_here [] i y below = absurd (omega arith)
get_set_here (x ∷ xs) zero y below = refl
get_set_here (x ∷ xs) (suc i) y below = get_set_here xs i y (omega arith)

pub get_set_other : {X : Type 0} (xs : List X) (i k : ℕ) (y : X) → (k ≡ i → ⊥) → slice_get (slice_set xs i y) k ≡ slice_get xs k
get_set_other [] i k y other = refl
get_set_other (x ∷ xs) zero zero y other = absurd (other refl)
get_set_other (x ∷ xs) zero (suc k) y other = refl
get_set_other (x ∷ xs) (suc i) zero y other = refl
get_set_other (x ∷ xs) (suc i) (suc k) y other = get_set_other xs i k y (λ e. other (ap suc e))

-- an item of two lists, appended one to the other
pub get_parts : {X : Type 0} (xs ys : List X) (i : ℕ) (x : X) → slice_get (xs ++ ys) i ≡ Some x → (slice_get xs i ≡ Some x) ⊎ ((j : ℕ) × (i ≡ length xs + j) × (slice_get ys j ≡ Some x))
get_parts [] ys i x h = inr (i, omega arith, h)
get_parts (z ∷ xs) ys zero x h = inl h
get_parts (z ∷ xs) ys (suc i) x h = elim (get_parts xs ys i x h) [ inl a ↦ inl a | inr (j, e, at) ↦ (let same : i ≡ length xs + j = e in inr (j, omega arith, at)) ]

pub get_behind : {X : Type 0} (xs ys : List X) (j : ℕ) (x : X) → slice_get ys j ≡ Some x → slice_get (xs ++ ys) (length xs + j) ≡ Some x
get_behind [] ys j x h = let e : j ≡ 0 + j = omega arith in subst (λ k. slice_get ys k ≡ Some x) e h
get_behind (z ∷ xs) ys j x h = let e : suc (length xs + j) ≡ length (z ∷ xs) + j = omega arith in subst (λ k. slice_get (z ∷ (xs ++ ys)) k ≡ Some x) e (get_behind xs ys j x h)

-- an item of a list that was mapped
pub get_mapped : {X Y : Type 0} (f : X → Y) (xs : List X) (i : ℕ) (y : Y) → slice_get (map f xs) i ≡ Some y → (x : X) × (slice_get xs i ≡ Some x) × (f x ≡ y)
get_mapped f [] i y h = absurd cc
get_mapped f (x ∷ xs) zero y h = (x, refl, cc)
get_mapped f (x ∷ xs) (suc i) y h = get_mapped f xs i y h
