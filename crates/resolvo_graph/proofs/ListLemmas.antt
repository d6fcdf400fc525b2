-- Lists that a loop filters and maps. The element at a place past the end is `d`.
use Rattle.std.proofs.Common.{◌≡◌, ℕ, suc, ◌+◌, ◌<◌, ◌≤◌, add-one, drop-cons, Bool, true, false, cond, List, [], ◌∷◌, ◌++◌, map, take, drop, filter, get_or, length, refl, sym, ap, ◌∙◌, append_assoc}
use Rattle.std.proofs.lemmas.List.{take_more, take_all, append-nil, map-append}
use Rattle.std.proofs.lemmas.List.Concat.{flat_map-append}
use Rattle.std.proofs.lemmas.List.Elements.{filter-append}
use Rattle.std.specs.List.{flat_map}

-- a property of the elements so far, at the end, is one of all
pub whole : {X Y : Type 0} (f : List X → Y) (xs ys : List X) (i : ℕ) (found : Y) → length xs ≤ i → xs ≡ ys → found ≡ f (take i xs) → found ≡ f ys
whole f xs ys i found h same so = so ∙ ap f (take_all i xs h ∙ same)

module _ {X : Type 0} (xs : List X) (i : ℕ) (d x : X) (h : i < length xs) (at : x ≡ get_or xs i d) where
  one_more : take (i + 1) xs ≡ take i xs ++ x ∷ []
  one_more = take_more xs i d h ∙ ap (λ y. take i xs ++ y ∷ []) (sym at)

  -- the first remaining element
  pub left : drop i xs ≡ x ∷ drop (i + 1) xs
  left = drop-cons xs i d h ∙ ap (λ y. y ∷ drop (suc i) xs) (sym at) ∙ ap (λ k. x ∷ drop k xs) (sym (add-one i))

  filtered : (p : X → Bool) → filter p (take (i + 1) xs) ≡ filter p (take i xs) ++ cond (p x) (x ∷ []) []
  filtered p = ap (filter p) one_more ∙ filter-append p (take i xs) (x ∷ [])

  module _ {Y : Type 0} (f : X → Y) where
    pub map_more : (before found now : List Y) → found ≡ before ++ map f (take i xs) → now ≡ found ++ f x ∷ [] → now ≡ before ++ map f (take (i + 1) xs)
    map_more before found now so put =
        put ∙ ap (λ ys. ys ++ f x ∷ []) so ∙ append_assoc before (map f (take i xs)) (f x ∷ []) ∙ ap (λ ys. before ++ ys) (sym (ap (map f) one_more ∙ map-append f (take i xs) (x ∷ [])))

  pub flat_more : {Y : Type 0} (f : X → List Y) → flat_map f (take i xs) ++ f x ≡ flat_map f (take (i + 1) xs)
  flat_more f = ap (λ ys. flat_map f (take i xs) ++ ys) (sym (append-nil (f x))) ∙ sym (flat_map-append f (take i xs) (x ∷ [])) ∙ ap (flat_map f) (sym one_more)

  pub filter_put : (p : X → Bool) (found now : List X) → found ≡ filter p (take i xs) → now ≡ found ++ cond (p x) (x ∷ []) [] → now ≡ filter p (take (i + 1) xs)
  filter_put p found now so put = put ∙ ap (λ ys. ys ++ cond (p x) (x ∷ []) []) so ∙ sym (filtered p)

  pub filter_more : (p : X → Bool) (found now : List X) → found ≡ filter p (take i xs) → p x ≡ true → now ≡ found ++ x ∷ [] → now ≡ filter p (take (i + 1) xs)
  filter_more p found now so holds put = put ∙ ap (λ ys. ys ++ x ∷ []) so ∙ ap (λ b. filter p (take i xs) ++ cond b (x ∷ []) []) (sym holds) ∙ sym (filtered p)

  pub filter_same : (p : X → Bool) (found now : List X) → found ≡ filter p (take i xs) → p x ≡ false → now ≡ found → now ≡ filter p (take (i + 1) xs)
  filter_same p found now so fails put = put ∙ so ∙ sym (append-nil (filter p (take i xs))) ∙ ap (λ b. filter p (take i xs) ++ cond b (x ∷ []) []) (sym fails) ∙ sym (filtered p)

-- one element more
module _ {X Y : Type 0} (f : X → Y) (p : X → Bool) (xs : List X) (x : X) (found now : List Y) (so : found ≡ map f (filter p xs)) where
  picked : map f (filter p (xs ++ x ∷ [])) ≡ map f (filter p xs) ++ map f (cond (p x) (x ∷ []) [])
  picked = ap (map f) (filter-append p xs (x ∷ [])) ∙ map-append f (filter p xs) (cond (p x) (x ∷ []) [])

  pub puts : now ≡ found ++ cond (p x) (f x ∷ []) [] → now ≡ map f (filter p (xs ++ x ∷ []))
  puts put = put ∙ ap (λ ys. ys ++ cond (p x) (f x ∷ []) []) so ∙ ap (λ ys. map f (filter p xs) ++ ys) (go (p x)) ∙ sym picked
    where
      go : (b : Bool) → cond b (f x ∷ []) [] ≡ map f (cond b (x ∷ []) [])
      go true = refl
      go false = refl
