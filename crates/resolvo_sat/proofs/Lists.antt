-- Lemmas on lists.
use Rattle.std.proofs.Common.{◌≡◌, zero, suc, ◌⊎◌, inl, inr, Bool, true, false, List, [], ◌∷◌, ◌++◌, map, filter, cond, refl, sym, ap, subst, arith}
use Rattle.std.specs.Prelude.{Contains}
use Rattle.std.specs.List.{list_any, list_all}
use Rattle.std.proofs.lemmas.Bool.{or_cases, or_left, or_right, and_parts, and_from, and_cases, both_ways, cases_Bool}

pub contains_first : {X : Type 0} (x y : X) (xs : List X) → y ≡ x → Contains (y ∷ xs) x
contains_first x y xs e = (0, omega arith, e)

pub contains_later : {X : Type 0} (x y : X) (xs : List X) → Contains xs x → Contains (y ∷ xs) x
contains_later x y xs (k, below, at) = (suc k, omega arith, at)

pub contains_none : {X : Type 0} (x : X) → Contains [] x → ⊥
contains_none x (k, below, at) = omega arith

pub contains_cases : {X : Type 0} (x y : X) (xs : List X) → Contains (y ∷ xs) x → (x ≡ y) ⊎ Contains xs x
contains_cases x y xs (zero, below, at) = inl (sym at)
contains_cases x y xs (suc k, below, at) = inr (k, omega arith, at)

pub contains_one : {X : Type 0} (x y : X) → Contains (y ∷ []) x → x ≡ y
contains_one x y h = elim (contains_cases x y [] h) [ inl e ↦ e | inr n ↦ absurd (contains_none x n) ]

pub contains_left : {X : Type 0} (x : X) (xs ys : List X) → Contains xs x → Contains (xs ++ ys) x
contains_left x [] ys h = absurd (contains_none x h)
contains_left x (z ∷ xs) ys h = elim (contains_cases x z xs h) [ inl e ↦ contains_first x z (xs ++ ys) (sym e) | inr a ↦ contains_later x z (xs ++ ys) (contains_left x xs ys a) ]

pub contains_right : {X : Type 0} (x : X) (xs ys : List X) → Contains ys x → Contains (xs ++ ys) x
contains_right x [] ys h = h
contains_right x (z ∷ xs) ys h = contains_later x z (xs ++ ys) (contains_right x xs ys h)

pub contains_parts : {X : Type 0} (x : X) (xs ys : List X) → Contains (xs ++ ys) x → Contains xs x ⊎ Contains ys x
contains_parts x [] ys h = inr h
contains_parts x (z ∷ xs) ys h = elim (contains_cases x z (xs ++ ys) h) [
  | inl e ↦ inl (contains_first x z xs (sym e))
  | inr a ↦ elim (contains_parts x xs ys a) [ inl b ↦ inl (contains_later x z xs b) | inr b ↦ inr b ]
]

pub contains_map : {X Y : Type 0} (f : X → Y) (x : X) (xs : List X) → Contains xs x → Contains (map f xs) (f x)
contains_map f x [] h = absurd (contains_none x h)
contains_map f x (z ∷ xs) h = elim (contains_cases x z xs h) [ inl e ↦ contains_first (f x) (f z) (map f xs) (ap f (sym e)) | inr a ↦ contains_later (f x) (f z) (map f xs) (contains_map f x xs a) ]

pub map_contains : {X Y : Type 0} (f : X → Y) (y : Y) (xs : List X) → Contains (map f xs) y → (x : X) × Contains xs x × (y ≡ f x)
map_contains f y [] h = absurd (contains_none y h)
map_contains f y (z ∷ xs) h = elim (contains_cases y (f z) (map f xs) h) [ inl e ↦ (z, contains_first z z xs refl, e) | inr a ↦ let (x, b, e) = map_contains f y xs a in (x, contains_later x z xs b, e) ]

pub contains_filter : {X : Type 0} (f : X → Bool) (x : X) (xs : List X) → Contains xs x → f x ≡ true → Contains (filter f xs) x
contains_filter f x [] h t = absurd (contains_none x h)
contains_filter f x (z ∷ xs) h t = go (f z) refl (contains_cases x z xs h) (λ a. contains_filter f x xs a t)
  where
    go : (b : Bool) → f z ≡ b → (x ≡ z) ⊎ Contains xs x → (Contains xs x → Contains (filter f xs) x) → Contains (cond b (z ∷ filter f xs) (filter f xs)) x
    go true e (inl i) rest = contains_first x z (filter f xs) (sym i)
    go true e (inr a) rest = contains_later x z (filter f xs) (rest a)
    go false e (inl i) rest = absurd (both_ways (f z) e (subst (λ y. f y ≡ true) i t))
    go false e (inr a) rest = rest a

pub filter_contains : {X : Type 0} (f : X → Bool) (x : X) (xs : List X) → Contains (filter f xs) x → Contains xs x × (f x ≡ true)
filter_contains f x [] h = absurd (contains_none x h)
filter_contains f x (z ∷ xs) h = go (f z) refl h (λ a. filter_contains f x xs a)
  where
    go : (b : Bool) → f z ≡ b → Contains (cond b (z ∷ filter f xs) (filter f xs)) x → (Contains (filter f xs) x → Contains xs x × (f x ≡ true)) → Contains (z ∷ xs) x × (f x ≡ true)
    go true e a rest = elim (contains_cases x z (filter f xs) a) [
      | inl i ↦ (contains_first x z xs (sym i), subst (λ y. f y ≡ true) (sym i) e)
      | inr c ↦ (contains_later x z xs (rest c).0, (rest c).1)
    ]
    go false e a rest = (contains_later x z xs (rest a).0, (rest a).1)

pub any_contained : {X : Type 0} (f : X → Bool) (xs : List X) → list_any f xs ≡ true → (x : X) × Contains xs x × (f x ≡ true)
any_contained f [] h = absurd (both_ways false refl h)
any_contained f (x ∷ xs) h = elim (or_cases (f x) (list_any f xs) h) [
  | inl e ↦ (x, contains_first x x xs refl, e)
  | inr e ↦ let (y, a, t) = any_contained f xs e in (y, contains_later y x xs a, t)
]

pub contained_any : {X : Type 0} (f : X → Bool) (x : X) (xs : List X) → Contains xs x → f x ≡ true → list_any f xs ≡ true
contained_any f x [] a h = absurd (contains_none x a)
contained_any f x (y ∷ ys) a h = elim (contains_cases x y ys a) [
  | inl e ↦ or_left _ _ (subst (λ z. f z ≡ true) e h)
  | inr b ↦ or_right _ _ (contained_any f x ys b h)
]

pub none_contained : {X : Type 0} (f : X → Bool) (x : X) (xs : List X) → Contains xs x → list_any f xs ≡ false → f x ≡ false
none_contained f x xs a h = elim (cases_Bool (f x)) [ inl e ↦ absurd (both_ways _ h (contained_any f x xs a e)) | inr e ↦ e ]

pub all_contained : {X : Type 0} (f : X → Bool) (x : X) (xs : List X) → list_all f xs ≡ true → Contains xs x → f x ≡ true
all_contained f x [] h a = absurd (contains_none x a)
all_contained f x (y ∷ ys) h a = elim (contains_cases x y ys a) [
  | inl e ↦ subst (λ z. f z ≡ true) (sym e) (and_parts (f y) (list_all f ys) h).0
  | inr b ↦ all_contained f x ys (and_parts (f y) (list_all f ys) h).1 b
]

pub contained_all : {X : Type 0} (f : X → Bool) (xs : List X) → ((x : X) → Contains xs x → f x ≡ true) → list_all f xs ≡ true
contained_all f [] h = refl
contained_all f (y ∷ ys) h = and_from _ _ (h y (contains_first y y ys refl)) (contained_all f ys (λ x a. h x (contains_later x y ys a)))

-- one element fails the test
pub all_fails : {X : Type 0} (f : X → Bool) (xs : List X) → list_all f xs ≡ false → (x : X) × Contains xs x × (f x ≡ false)
all_fails f [] h = absurd (both_ways true h refl)
all_fails f (y ∷ ys) h = elim (and_cases (f y) (list_all f ys) h) [
  | inl e ↦ (y, contains_first y y ys refl, e)
  | inr e ↦ let (x, a, t) = all_fails f ys e in (x, contains_later x y ys a, t)
]

pub contains_only : {X : Type 0} (x : X) → Contains (x ∷ []) x
contains_only x = contains_first x x [] refl

pub contains_second : {X : Type 0} (x y : X) → Contains (x ∷ y ∷ []) y
contains_second x y = contains_later y x (y ∷ []) (contains_only y)
