-- Tests over lists and sets of versions.
use Rattle.std.proofs.Common.{◌≡◌, ℕ, zero, suc, ◌<◌, Bool, true, false, List, [], ◌∷◌, map, Some, refl, sym, ap, ◌∙◌, subst, inl, inr, cond, length, arith}
use Rattle.std.specs.Prelude.{not, ◌&&◌, ◌||◌, filter, slice_get, slice_index_or, Contains}
use Rattle.std.specs.List.{list_any, list_all, flat_map}
use Rattle.std.proofs.lemmas.Bool.{false≢true, cases_Bool, or_parts, and_parts, or_cases, or_left, or_right, and_cases}
use Rattle.std.proofs.lemmas.List.Folds.{list_any-append}
use Rattle.std.proofs.lemmas.Map.Views.{Contains-from_any}
use Rattle.resolvo_text.specs.Line.{Version}
use Rattle.resolvo_text.specs.Matches.{Set, same_version, is_member}
use Rattle.resolvo_catalogue_core.proofs.TableSteps.{same_version_is}

-- some element passes p; any test that it passes, some element passes
pub record Found {X : Type 0} (p : X → Bool) (xs : List X) : Type 0 where
  pub item : X
  pub passes : p item ≡ true
  pub also : (q : X → Bool) → q item ≡ true → list_any q xs ≡ true

pub found : {X : Type 0} (p : X → Bool) (xs : List X) → list_any p xs ≡ true → Found p xs
found p [] h = absurd (false≢true h)
found p (x ∷ xs) h = elim (or_cases (p x) (list_any p xs) h) [
  | inl e ↦ record { item = x; passes = e; also = λ q k. or_left (q x) (list_any q xs) k }
  | inr e ↦ let f = found p xs e in record { item = f.item; passes = f.passes; also = λ q k. or_right (q x) (list_any q xs) (f.also q k) }
]

-- some element fails p
pub failing : {X : Type 0} (p : X → Bool) (xs : List X) → list_all p xs ≡ false → Found (λ x. not (p x)) xs
failing p [] h = absurd (false≢true (sym h))
failing p (x ∷ xs) h = elim (and_cases (p x) (list_all p xs) h) [
  | inl e ↦ record { item = x; passes = ap not e; also = λ q k. or_left (q x) (list_any q xs) k }
  | inr e ↦ let f = failing p xs e in record { item = f.item; passes = f.passes; also = λ q k. or_right (q x) (list_any q xs) (f.also q k) }
]

-- where none passes, the one at k doesn't
pub none_at : {X : Type 0} (p : X → Bool) (xs : List X) (k : ℕ) (x : X) → list_any p xs ≡ false → slice_get xs k ≡ Some x → p x ≡ false
none_at p [] k x h e = cc
none_at p (y ∷ ys) zero x h e = let same : y ≡ x = cc in subst (λ (z : _). p z ≡ false) same (or_parts (p y) (list_any p ys) h).0
none_at p (y ∷ ys) (suc k) x h e = none_at p ys k x (or_parts (p y) (list_any p ys) h).1 e

-- where all pass, the one at k does
pub all_at : {X : Type 0} (p : X → Bool) (xs : List X) (k : ℕ) (x : X) → list_all p xs ≡ true → slice_get xs k ≡ Some x → p x ≡ true
all_at p [] k x h e = cc
all_at p (y ∷ ys) zero x h e = let same : y ≡ x = cc in subst (λ (z : _). p z ≡ true) same (and_parts (p y) (list_all p ys) h).0
all_at p (y ∷ ys) (suc k) x h e = all_at p ys k x (and_parts (p y) (list_all p ys) h).1 e

-- ---- members

pub same_own : (v : Version) → same_version v v ≡ true
same_own v = (same_version_is v v).1 refl

pub same_is : (v w : Version) → same_version v w ≡ true → v ≡ w
same_is v w h = (same_version_is v w).0 h

pub contained : (set : Set) (v : Version) → is_member v set ≡ true → Contains set v
contained set v h = Contains-from_any same_is v set h

pub is_contained : (set : Set) (v : Version) → Contains set v → is_member v set ≡ true
is_contained set v c = at set c.0 c.1 c.2 where
  at : (xs : Set) (k : ℕ) → k < length xs → slice_index_or xs k v ≡ v → is_member v xs ≡ true
  at [] k l e = absurd (omega arith)
  at (x ∷ xs) zero l e = or_left _ _ (subst (λ (y : Version). same_version v y ≡ true) (sym e) (same_own v))
  at (x ∷ xs) (suc k) l e = or_right _ _ (at xs k (omega arith) e)

-- a member that passes
pub held : (p : Version → Bool) (set : Set) (v : Version) → is_member v set ≡ true → p v ≡ true → list_any p set ≡ true
held p set v h e =
    let f = found (same_version v) set h in
    f.also p (subst (λ (w : Version). p w ≡ true) (same_is v f.item f.passes) e)

-- each member passes
pub each_held : (p : Version → Bool) (set : Set) (v : Version) → list_all p set ≡ true → is_member v set ≡ true → p v ≡ true
each_held p set v all h = elim (cases_Bool (p v)) [
  | inl e ↦ e
  | inr e ↦ absurd (both set all (held (λ w. not (p w)) set v h (ap not e)))
] where
  both : (xs : Set) → list_all p xs ≡ true → list_any (λ w. not (p w)) xs ≡ true → ⊥
  both [] a s = false≢true s
  both (x ∷ xs) a s =
      let q = and_parts (p x) (list_all p xs) a in
      elim (or_cases (not (p x)) (list_any (λ w. not (p w)) xs) s) [
        | inl n ↦ false≢true (sym (ap not q.0) ∙ n)
        | inr n ↦ both xs q.1 n
      ]

-- a member that passes, with that it is a member
pub member : (p : Version → Bool) (set : Set) → list_any p set ≡ true → (v : Version) × (is_member v set ≡ true) × (p v ≡ true)
member p set h = let f = found p set h in (f.item, f.also (same_version f.item) (same_own f.item), f.passes)

-- no member passes
pub none_held : (p : Version → Bool) (set : Set) → ((v : Version) → is_member v set ≡ true → p v ≡ false) → list_any p set ≡ false
none_held p set h = elim (cases_Bool (list_any p set)) [
  | inr e ↦ e
  | inl e ↦ let m = member p set e in absurd (false≢true (sym (h m.0 m.1) ∙ m.2))
]

-- ---- parts of lists

pub list_any-map : {X Y : Type 0} (q : Y → Bool) (f : X → Y) (xs : List X) → list_any q (map f xs) ≡ list_any (λ x. q (f x)) xs
list_any-map q f [] = refl
list_any-map q f (x ∷ xs) = ap (λ b. q (f x) || b) (list_any-map q f xs)

pub list_any-flat_map : {X Y : Type 0} (q : Y → Bool) (f : X → List Y) (xs : List X) → list_any q (flat_map f xs) ≡ list_any (λ x. list_any q (f x)) xs
list_any-flat_map q f [] = refl
list_any-flat_map q f (x ∷ xs) = list_any-append q (f x) (flat_map f xs) ∙ ap (λ b. list_any q (f x) || b) (list_any-flat_map q f xs)

kept : {X : Type 0} (q : X → Bool) (x : X) (b : Bool) (xs : List X) → b ≡ true → q x ≡ true → list_any q (cond b (x ∷ xs) xs) ≡ true
kept q x true xs h e = or_left (q x) (list_any q xs) e
kept q x false xs h e = absurd (false≢true h)

kept_rest : {X : Type 0} (q : X → Bool) (x : X) (b : Bool) (xs : List X) → list_any q xs ≡ true → list_any q (cond b (x ∷ xs) xs) ≡ true
kept_rest q x true xs e = or_right (q x) (list_any q xs) e
kept_rest q x false xs e = e

-- an element that passes both tests is kept by the one
pub any_kept : {X : Type 0} (q p : X → Bool) (xs : List X) → list_any (λ x. q x && p x) xs ≡ true → list_any q (filter p xs) ≡ true
any_kept q p [] h = h
any_kept q p (x ∷ xs) h = elim (or_cases (q x && p x) (list_any (λ y. q y && p y) xs) h) [
  | inl e ↦ let parts = and_parts (q x) (p x) e in kept q x (p x) (filter p xs) parts.1 parts.0
  | inr e ↦ kept_rest q x (p x) (filter p xs) (any_kept q p xs e)
]
