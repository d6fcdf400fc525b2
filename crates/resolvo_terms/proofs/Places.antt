-- Lists by place: elements by their places, one more, one place changed, and elements at the same place of two lists.
use Rattle.std.proofs.Common.{◌≡◌, ◌⊎◌, inl, inr, ℕ, zero, suc, List, [], ◌∷◌, ◌++◌, length, Some, refl, ap, subst, ◌∙◌}
use Rattle.std.specs.Prelude.{Contains, slice_get}
use Rattle.std.specs.List.{slice_set}
use Rattle.std.proofs.lemmas.Option.{get_or_from_slice_get, slice_get_within, slice_get-get_or}
use Rattle.resolvo_terms.specs.Terms.{AreEach}

-- ---- elements by their places

pub at_from_contains : {X : Type 0} (xs : List X) (x : X) → Contains xs x → (k : ℕ) × (slice_get xs k ≡ Some x)
at_from_contains xs x (k, lt, at) = (k, slice_get-get_or xs k x lt ∙ ap (λ y. Some y) at)

pub contains_from_at : {X : Type 0} (xs : List X) (x : X) (k : ℕ) → slice_get xs k ≡ Some x → Contains xs x
contains_from_at xs x k at = (k, slice_get_within xs k x at, get_or_from_slice_get xs k x x at)

-- ---- one more at the end

pub get_new : {X : Type 0} (xs : List X) (x : X) → slice_get (xs ++ x ∷ []) (length xs) ≡ Some x
get_new [] x = refl
get_new (y ∷ xs) x = get_new xs x

pub get_kept : {X : Type 0} (xs : List X) (x y : X) (n : ℕ) → slice_get xs n ≡ Some y → slice_get (xs ++ x ∷ []) n ≡ Some y
get_kept [] x y n e = absurd cc
get_kept (z ∷ xs) x y zero e = e
get_kept (z ∷ xs) x y (suc n) e = get_kept xs x y n e

-- an element is one of before, or the new one
pub get_push : {X : Type 0} (xs : List X) (x y : X) (n : ℕ) → slice_get (xs ++ x ∷ []) n ≡ Some y → (slice_get xs n ≡ Some y) ⊎ ((n ≡ length xs) × (x ≡ y))
get_push [] x y zero e = inr (refl, cc)
get_push [] x y (suc n) e = absurd cc
get_push (z ∷ xs) x y zero e = inl e
get_push (z ∷ xs) x y (suc n) e = elim (get_push xs x y n e) [ inl h ↦ inl h | inr h ↦ inr (ap (λ (k : ℕ). suc k) h.0, h.1) ]

-- ---- one place changed

pub set_at : {X : Type 0} (xs : List X) (k : ℕ) (x y : X) → slice_get xs k ≡ Some x → slice_get (slice_set xs k y) k ≡ Some y
set_at [] k x y e = absurd cc
set_at (z ∷ xs) zero x y e = refl
set_at (z ∷ xs) (suc k) x y e = set_at xs k x y e

pub set_others : {X : Type 0} (xs : List X) (k : ℕ) (y : X) (j : ℕ) → (k ≡ j → ⊥) → slice_get (slice_set xs k y) j ≡ slice_get xs j
set_others [] k y j apart = refl
set_others (z ∷ xs) zero y zero apart = absurd (apart refl)
set_others (z ∷ xs) zero y (suc j) apart = refl
set_others (z ∷ xs) (suc k) y zero apart = refl
set_others (z ∷ xs) (suc k) y (suc j) apart = set_others xs k y j (λ e. apart (ap (λ (n : ℕ). suc n) e))

pub set_length : {X : Type 0} (xs : List X) (k : ℕ) (y : X) → length (slice_set xs k y) ≡ length xs
set_length [] k y = refl
set_length (z ∷ xs) zero y = refl
set_length (z ∷ xs) (suc k) y = ap (λ (n : ℕ). suc n) (set_length xs k y)

-- ---- elements side by side

pub each_length : {X Y : Type 0} (R : X → Y → Type 0) (xs : List X) (ys : List Y) → AreEach R xs ys → length xs ≡ length ys
each_length R [] [] h = refl
each_length R [] (y ∷ ys) h = absurd h
each_length R (x ∷ xs) [] h = absurd h
each_length R (x ∷ xs) (y ∷ ys) h = ap (λ (n : ℕ). suc n) (each_length R xs ys h.1)

pub each_left : {X Y : Type 0} (R : X → Y → Type 0) (xs : List X) (ys : List Y) → AreEach R xs ys → (k : ℕ) (x : X) → slice_get xs k ≡ Some x → (y : Y) × (slice_get ys k ≡ Some y) × R x y
each_left R [] ys h k x e = absurd cc
each_left R (z ∷ xs) [] h k x e = absurd h
each_left R (z ∷ xs) (y ∷ ys) h zero x e = let same : z ≡ x = cc in (y, refl, subst (λ (w : _). R w y) same h.0)
each_left R (z ∷ xs) (y ∷ ys) h (suc k) x e = each_left R xs ys h.1 k x e

pub each_right : {X Y : Type 0} (R : X → Y → Type 0) (xs : List X) (ys : List Y) → AreEach R xs ys → (k : ℕ) (y : Y) → slice_get ys k ≡ Some y → (x : X) × (slice_get xs k ≡ Some x) × R x y
each_right R [] [] h k y e = absurd cc
each_right R [] (z ∷ ys) h k y e = absurd h
each_right R (x ∷ xs) [] h k y e = absurd h
each_right R (x ∷ xs) (z ∷ ys) h zero y e = let same : z ≡ y = cc in (x, refl, subst (λ (w : _). R x w) same h.0)
each_right R (x ∷ xs) (z ∷ ys) h (suc k) y e = each_right R xs ys h.1 k y e

-- ---- elements

pub no_element : {X : Type 0} (x : X) → Contains [] x → ⊥
no_element x h = let at = at_from_contains [] x h in cc

pub first_element : {X : Type 0} (y : X) (ys : List X) → Contains (y ∷ ys) y
first_element y ys = contains_from_at (y ∷ ys) y 0 refl

pub later_element : {X : Type 0} (y : X) (ys : List X) (x : X) → Contains ys x → Contains (y ∷ ys) x
later_element y ys x h = let at = at_from_contains ys x h in contains_from_at (y ∷ ys) x (suc at.0) at.1

pub element_cases : {X : Type 0} (y : X) (ys : List X) (x : X) → Contains (y ∷ ys) x → (y ≡ x) ⊎ Contains ys x
element_cases y ys x h = let at = at_from_contains (y ∷ ys) x h in go at.0 at.1
  where
    go : (k : ℕ) → slice_get (y ∷ ys) k ≡ Some x → (y ≡ x) ⊎ Contains ys x
    go zero e = inl cc
    go (suc k) e = inr (contains_from_at ys x k e)
