-- The places of keys, and the values beside them, as one more of each is put in.
use Rattle.std.proofs.Common.{◌≡◌, ℕ, zero, suc, ◌-◌, ◌<◌, ◌++◌, length, take, get_or, arith, Bool, true, false, List, [], ◌∷◌, refl, cond, ap, ◌∙◌, sym, length-append}
use Rattle.std.specs.Prelude.{Option, None, Some}
use Rattle.std.specs.Cmp.{IsEquivalence}
use Rattle.std.specs.List.{slice_get, zip}
use Rattle.std.specs.Map.{lookup}
use Rattle.std.specs.Option.{is_some, option_map, option_or}
use Rattle.std.proofs.lemmas.Bool.{false≢true}
use Rattle.std.proofs.Math.Seq.{take-append_seam}
use Rattle.resolvo_pool.specs.Keyed.{PutsKey, place_in, ArePlaces}
use Rattle.resolvo_pool.proofs.TableLemmas.{pushed_to, found_in}

-- the value at a place, if there is one
abbrev value_at : {X : Type 0} → List X → Option ℕ → Option X
value_at xs None = None
value_at xs (Some i) = slice_get xs i

module _ {K : Type 0} (eq : K → K → Bool) where
  -- a place is one of the list
  pub place_below : (ks : List K) (k : K) (i : ℕ) → place_in eq ks k ≡ Some i → i < length ks
  place_below [] k i h = cc
  place_below (l ∷ ks) k i h = go (eq k l) (place_in eq ks k) (place_below ks k) h
    where
      go : (b : Bool) (o : Option ℕ) → ((j : ℕ) → o ≡ Some j → j < length ks) → cond b (Some 0) (option_map (λ (j : ℕ). suc j) o) ≡ Some i → i < suc (length ks)
      go true o below is =
          let first : 0 ≡ i = cc in
          omega arith
      go false None below is = cc
      go false (Some j) below is =
          let next : suc j ≡ i = cc in
          omega (arith, below j refl)

  one_more : (b c : Bool) (n : ℕ) (o whole : Option ℕ) → whole ≡ option_or o (cond c (Some n) None) → cond b (Some 0) (option_map (λ (j : ℕ). suc j) whole) ≡ option_or (cond b (Some 0) (option_map (λ (j : ℕ). suc j) o)) (cond c (Some (suc n)) None)
  one_more true c n o whole h = refl
  one_more false true n None whole h = rw h refl
  one_more false false n None whole h = rw h refl
  one_more false c n (Some i) whole h = rw h refl

  place_pushed : (ks : List K) (k q : K) → place_in eq (ks ++ k ∷ []) q ≡ option_or (place_in eq ks q) (cond (eq q k) (Some (length ks)) None)
  place_pushed [] k q = refl
  place_pushed (l ∷ ks) k q =
      one_more (eq q l) (eq q k) (length ks) (place_in eq ks q) (place_in eq (ks ++ k ∷ []) q) (place_pushed ks k q)

  place_same : (ks : List K) (p q : K) → ((x : K) → eq p x ≡ eq q x) → place_in eq ks p ≡ place_in eq ks q
  place_same [] p q h = refl
  place_same (l ∷ ks) p q h = rw (h l, place_same ks p q h) refl

  -- the next place is that of a key that was not there, and the others keep theirs
  pub places_more : IsEquivalence eq → (ks ls : List K) (k : K) → place_in eq ks k ≡ None → ls ≡ ks ++ k ∷ [] → (n : ℕ) → n ≡ length ks → (number new : K → Option ℕ) → ((q : K) → new q ≡ cond (eq k q) (Some n) (number q)) → ArePlaces eq number ks → ArePlaces eq new ls
  places_more laws ks ls k fresh more n count number new puts places q =
      puts q ∙ rw (more, place_pushed ks k q, laws.symm q k, count, places q) (go (eq k q) refl)
    where
      right : (o : Option ℕ) → o ≡ option_or o None
      right None = refl
      right (Some x) = refl

      go : (b : Bool) → eq k q ≡ b → cond b (Some (length ks)) (place_in eq ks q) ≡ option_or (place_in eq ks q) (cond b (Some (length ks)) None)
      go true e =
          let absent : place_in eq ks q ≡ None = sym (place_same ks k q (λ x. laws.congr k q x e)) ∙ fresh in
          rw absent refl
      go false e = right (place_in eq ks q)

  module _ {X : Type 0} where
    paired : (b : Bool) (x : X) (xs : List X) (o : Option ℕ) (found : Option X) → found ≡ value_at xs o → cond b (Some x) found ≡ value_at (x ∷ xs) (cond b (Some 0) (option_map (λ (j : ℕ). suc j) o))
    paired true x xs o found h = refl
    paired false x xs None found h = h
    paired false x xs (Some i) found h = h

    -- the value of a key is the one at its place
    lookup_paired : (ks : List K) (xs : List X) → length xs ≡ length ks → (k : K) → lookup (eq k) (zip ks xs) ≡ value_at xs (place_in eq ks k)
    lookup_paired [] xs even k = refl
    lookup_paired (l ∷ ks) [] even k = absurd (omega (arith, even))
    lookup_paired (l ∷ ks) (x ∷ xs) even k =
        paired (eq k l) x xs (place_in eq ks k) (lookup (eq k) (zip ks xs)) (lookup_paired ks xs (omega (arith, even)) k)

    pub found_at : (ks : List K) (xs : List X) → length xs ≡ length ks → (k : K) (i : ℕ) (x : X) → place_in eq ks k ≡ Some i → slice_get xs i ≡ Some x → lookup (eq k) (zip ks xs) ≡ Some x
    found_at ks xs even k i x at is = lookup_paired ks xs even k ∙ (ap (value_at xs) at ∙ is)

    pub found_none : (ks : List K) (xs : List X) → length xs ≡ length ks → (k : K) → place_in eq ks k ≡ None → lookup (eq k) (zip ks xs) ≡ None
    found_none ks xs even k at = lookup_paired ks xs even k ∙ ap (value_at xs) at

    some_at : (xs : List X) (i : ℕ) → i < length xs → is_some (slice_get xs i) ≡ true
    some_at [] i h = absurd (omega arith)
    some_at (x ∷ xs) zero h = refl
    some_at (x ∷ xs) (suc i) h = some_at xs i (omega arith)

    -- the value at a place that is one of the list
    pub here_at : (xs : List X) (i : ℕ) (x : X) → i < length xs → x ≡ get_or xs i x → slice_get xs i ≡ Some x
    here_at xs i x h is = at xs i h ∙ ap Some (sym is)
      where
        at : (ys : List X) (j : ℕ) → j < length ys → slice_get ys j ≡ Some (get_or ys j x)
        at [] j h = absurd (omega arith)
        at (y ∷ ys) zero h = refl
        at (y ∷ ys) (suc j) h = at ys j (omega arith)

    -- a key without a value has no place
    pub no_place : (ks : List K) (xs : List X) → length xs ≡ length ks → (k : K) → is_some (lookup (eq k) (zip ks xs)) ≡ false → place_in eq ks k ≡ None
    no_place ks xs even k fresh = go (place_in eq ks k) refl
      where
        go : (o : Option ℕ) → place_in eq ks k ≡ o → o ≡ None
        go None at = refl
        go (Some i) at =
            let there = some_at xs i (omega (arith, even, place_below ks k i at)) in
            absurd (false≢true (sym fresh ∙ (ap is_some (lookup_paired ks xs even k ∙ ap (value_at xs) at) ∙ there)))

-- one more of each is one more pair
paired_more : {K X : Type 0} (ks : List K) (xs : List X) (k : K) (x : X) → length xs ≡ length ks → zip (ks ++ k ∷ []) (xs ++ x ∷ []) ≡ zip ks xs ++ (k, x) ∷ []
paired_more [] [] k x even = refl
paired_more [] (y ∷ xs) k x even = absurd (omega (arith, even))
paired_more (l ∷ ks) [] k x even = absurd (omega (arith, even))
paired_more {K} {X} (l ∷ ks) (y ∷ xs) k x even = ap (λ (es : List (K × X)). (l, y) ∷ es) (paired_more ks xs k x (omega (arith, even)))

-- keys and values with one more of each
module _ {K X : Type 0} (eq : K → K → Bool) (laws : IsEquivalence eq) (ks ls : List K) (xs ys : List X) (k : K) (x : X) (even : length xs ≡ length ks) (fresh : is_some (lookup (eq k) (zip ks xs)) ≡ false) (keys : ls ≡ ks ++ k ∷ []) (values : ys ≡ xs ++ x ∷ []) where
  pairs : zip ls ys ≡ zip ks xs ++ (k, x) ∷ []
  pairs = rw (keys, values) (paired_more ks xs k x even)

  pub put_more : PutsKey eq (zip ks xs) (zip ls ys) k x
  put_more = pushed_to eq laws (zip ks xs) k x fresh (zip ls ys) pairs

  pub found_more : lookup (eq k) (zip ls ys) ≡ Some x
  found_more = found_in eq laws (zip ks xs) k x fresh (zip ls ys) pairs

-- a list that was put in last is taken away
pub taken_back : {X : Type 0} (xs ys zs : List X) (x : X) → ys ≡ xs ++ x ∷ [] → zs ≡ take (length ys - 1) ys → zs ≡ xs
taken_back xs ys zs x put taken =
    let count : length (xs ++ x ∷ []) - 1 ≡ length xs = omega (arith, length-append xs (x ∷ [])) in
    rw (taken, put, count) (take-append_seam xs (x ∷ []))
