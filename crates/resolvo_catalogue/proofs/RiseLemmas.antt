-- Lists whose numbers rise: read backwards they are in order by age.
use Rattle.std.proofs.Common.{◌≡◌, inl, inr, ℕ, ◌+◌, ◌-◌, ◌<◌, ◌≤◌, List, [], ◌∷◌, reverse, take, length, get_or, ap, subst, sym, ◌∙◌, arith}
use Rattle.std.specs.Prelude.{Contains}
use Rattle.std.specs.List.Sorted.{IsNonDecreasingBy}
use Rattle.std.proofs.lemmas.List.{reverse-append, take_more, take_all}
use Rattle.resolvo_terms.proofs.Places.{no_element, element_cases}
use Rattle.resolvo_catalogue.proofs.SortLemmas.{Rises, falls}

-- Read backwards, the list is in order by how far each number is below the most. Each number is less than the next one.
pub record RisesTo {X : Type 0} (most : ℕ) (number : X → ℕ) (xs : List X) (least : ℕ) : Type 0 where
  pub back : Rises (λ x. most - number x) (reverse xs)
  pub below : (z : X) → Contains (reverse xs) z → number z < least

pub rises_none : {X : Type 0} (most : ℕ) (number : X → ℕ) (least : ℕ) → RisesTo most number [] least
rises_none most number least = record { back = tt; below = λ z c. absurd (no_element z c) }

-- what is no less than the next number isn't above an earlier one, read by how far each is below the most
older : {X : Type 0} (most : ℕ) (number : X → ℕ) (y : X) (ys : List X) (least n : ℕ) → n ≡ number y → least ≤ n → ((z : X) → Contains ys z → number z < least) → (z : X) → Contains ys z → most - number y ≤ most - number z
older most number y ys least n is low below z c = let less : number z < least = below z c in omega arith

earlier : {X : Type 0} (number : X → ℕ) (ys : List X) (least n : ℕ) → least ≤ n → ((z : X) → Contains ys z → number z < least) → (z : X) → Contains ys z → number z < n + 1
earlier number ys least n low below z c = let less : number z < least = below z c in omega arith

-- one number more, which is no less than the next one
pub rises_more : {X : Type 0} (most : ℕ) (number : X → ℕ) (xs : List X) (i : ℕ) (d : X) (least n : ℕ) → i < length xs → n ≡ number (get_or xs i d) → least ≤ n
    → RisesTo most number (take i xs) least → RisesTo most number (take (i + 1) xs) (n + 1)
rises_more {X} most number xs i d least n lt is low h =
    let y = get_or xs i d in
    let ys = reverse (take i xs) in
    let e : reverse (take (i + 1) xs) ≡ y ∷ ys = ap reverse (take_more xs i d lt) ∙ reverse-append (take i xs) (y ∷ []) in
    let own : number y < n + 1 = omega (arith, is) in
    record {
      back = subst (λ (zs : List X). Rises (λ x. most - number x) zs) (sym e) (older most number y ys least n is low h.below, h.back);
      below = λ z c. elim (element_cases y ys z (subst (λ (zs : List X). Contains zs z) e c)) [
        | inl same ↦ subst (λ (x : X). number x < n + 1) same own
        | inr m ↦ earlier number ys least n low h.below z m
      ];
    }

-- all numbers rise
pub rises_all : {X : Type 0} (most : ℕ) (number : X → ℕ) (xs : List X) (i least : ℕ) → length xs ≤ i → RisesTo most number (take i xs) least → IsNonDecreasingBy (λ x. most - number x) (reverse xs)
rises_all {X} most number xs i least all h =
    falls (λ x. most - number x) (reverse xs) (subst (λ (ys : List X). Rises (λ x. most - number x) (reverse ys)) (take_all i xs all) h.back)
