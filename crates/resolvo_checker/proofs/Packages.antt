-- The versions that a SPEC picks, by their numbers and as they are listed.
use Rattle.std.proofs.Common.{◌≡◌, ℕ, zero, suc, ◌+◌, ◌<◌, ◌≤◌, Bool, true, false, List, [], ◌∷◌, ◌++◌, map, length, get_or, Option, Some, refl, sym, ap, ◌∙◌, subst, inl, inr, ◌⊎◌, cond, arith, append_assoc, length-append}
use Rattle.std.specs.Prelude.{filter, slice_get, slice_index_or, Contains, not, ◌&&◌}
use Rattle.std.specs.List.Sorted.{IsStrictlyIncreasing}
use Rattle.std.proofs.lemmas.Bool.{false≢true, cases_Bool, cases_lt, and_parts}
use Rattle.std.proofs.lemmas.Slice.Eq.{bytes_eq-Decides}
use Rattle.std.specs.Str.{bytes_eq}
use Rattle.resolvo_text.specs.Line.{Version, Spec}
use Rattle.resolvo_text.specs.Matches.{is_in_span}
use Rattle.resolvo_catalogue_core.specs.Questions.{AreAll}
use Rattle.resolvo_catalogue_core.specs.Picked.{is_picked, IsPicked}
use Rattle.std.specs.Option.{option_map}
use Rattle.resolvo_pool_core.specs.OnePass as pass
use Rattle.resolvo_report.specs.Value.{Atom}
use Rattle.resolvo_checker.specs.StepClauses.{is_in}
use Rattle.resolvo_checker.specs.Built.{positive_at, somes, passes}

-- ---- members of rising lists

abbrev In : ℕ → List ℕ → Type 0
In n [] = ⊥
In n (x ∷ xs) = (x ≡ n) ⊎ In n xs

in_from : (n : ℕ) (xs : List ℕ) → Contains xs n → In n xs
in_from n xs c = at xs c.0 c.1 c.2 where
  at : (ys : List ℕ) (k : ℕ) → k < length ys → slice_index_or ys k n ≡ n → In n ys
  at [] k l e = absurd (omega arith)
  at (y ∷ ys) zero l e = inl e
  at (y ∷ ys) (suc k) l e = inr (at ys k (omega arith) e)

from_in : (n : ℕ) (xs : List ℕ) → In n xs → Contains xs n
from_in n [] h = absurd h
from_in n (x ∷ xs) h = elim h [
  | inl e ↦ (0, omega arith, e)
  | inr i ↦ let c = from_in n xs i in (suc c.0, omega (arith, c.1), c.2)
]

-- each is above the one before, and at least m
abbrev Above : ℕ → List ℕ → Type 0
Above m [] = Unit {0}
Above m (x ∷ xs) = (m ≤ x) × Above (suc x) xs

above_from : (m : ℕ) (xs : List ℕ) → IsStrictlyIncreasing xs → (0 < length xs → m ≤ get_or xs 0 0) → Above m xs
above_from m [] r f = tt
above_from m (x ∷ xs) r f = (f (omega arith), above_from (suc x) xs (λ k h. next k h) (λ l. let s : x < get_or xs 0 0 = r 0 (omega arith) in omega (arith, s))) where
  next : (k : ℕ) → k + 1 < length xs → get_or xs k 0 < get_or xs (k + 1) 0
  next k h = let e : suc k + 1 ≡ suc (k + 1) = omega arith in subst (λ (n : ℕ). get_or xs k 0 < get_or (x ∷ xs) n 0) e (r (suc k) (omega (arith, h)))

in_above : (m n : ℕ) (xs : List ℕ) → Above m xs → In n xs → m ≤ n
in_above m n [] a i = absurd i
in_above m n (x ∷ xs) a i = elim i [
  | inl e ↦ let b : m ≤ x = a.0 in omega (arith, b, e)
  | inr j ↦ let b : m ≤ x = a.0 in let c : suc x ≤ n = in_above (suc x) n xs a.1 j in omega (arith, b, c)
]

-- ---- a list after a prefix

get_seam : (prefix : List Version) (v : Version) (vs : List Version) → slice_get (prefix ++ v ∷ vs) (length prefix) ≡ Some v
get_seam [] v vs = refl
get_seam (w ∷ prefix) v vs = get_seam prefix v vs

get_end : (prefix : List Version) (n : ℕ) (v : Version) → length prefix ≤ n → slice_get (prefix ++ []) n ≡ Some v → ⊥
get_end [] n v l e = cc
get_end (w ∷ prefix) zero v l e = omega arith
get_end (w ∷ prefix) (suc n) v l e = get_end prefix n v (omega arith) e

module _ (whole : List Version) (q : Version → Bool) where
  -- a version of this number passes
  abbrev IsNumbered : ℕ → Type 0
  IsNumbered n = (v : Version) × (slice_get whole n ≡ Some v) × (q v ≡ true)

  -- these are their numbers from m on
  record AreFrom (m : ℕ) (xs : List ℕ) : Type 0 where
    pub rising : Above m xs
    pub each : (n : ℕ) → In n xs → IsNumbered n
    pub all : (n : ℕ) → m ≤ n → IsNumbered n → In n xs

  abbrev chosen : List ℕ → List (Option (pass.Literal Atom))
  chosen xs = map (positive_at whole) xs

  -- the first number is the one at m
  first_is : (m : ℕ) (xs : List ℕ) → AreFrom m xs → IsNumbered m → (ys : List ℕ) × (xs ≡ m ∷ ys) × AreFrom (suc m) ys
  first_is m [] a p = absurd (a.all m (omega arith) p)
  first_is m (x ∷ xs) a p =
      let l : m ≤ x = a.rising.0 in
      let g : x ≤ m = elim (a.all m (omega arith) p) [ inl e ↦ omega (arith, e) | inr i ↦ let b : suc x ≤ m = in_above (suc x) m xs a.rising.1 i in omega (arith, b) ] in
      let e : x ≡ m = omega (arith, l, g) in (
        xs,
        ap (λ k. k ∷ xs) e,
        record {
          rising = subst (λ k. Above (suc k) xs) e a.rising.1;
          each = λ n i. a.each n (inr i);
          all = λ n h o. elim (a.all n (omega (arith, h)) o) [ inl f ↦ absurd (omega (arith, e, f, h)) | inr i ↦ i ];
        },
      )

  above_more : (m : ℕ) (xs : List ℕ) → Above m xs → (In m xs → ⊥) → Above (suc m) xs
  above_more m [] a n = tt
  above_more m (x ∷ xs) a n = let l : m ≤ x = a.0 in elim (cases_lt m x) [
    | inl h ↦ (omega (arith, h), a.1)
    | inr h ↦ absurd (n (inl (let e : x ≡ m = omega (arith, l, h) in e)))
  ]

  skip : (m : ℕ) (xs : List ℕ) → AreFrom m xs → (IsNumbered m → ⊥) → AreFrom (suc m) xs
  skip m xs a none = record {
    rising = above_more m xs a.rising (λ i. none (a.each m i));
    each = a.each;
    all = λ n h o. a.all n (omega (arith, h)) o;
  }

  none_left : (m : ℕ) (xs : List ℕ) → AreFrom m xs → ((n : ℕ) → m ≤ n → IsNumbered n → ⊥) → xs ≡ []
  none_left m [] a none = refl
  none_left m (x ∷ xs) a none = absurd (none x a.rising.0 (a.each x (inl refl)))

  same_Some : (v w : Version) → Some v ≡ Some w → v ≡ w
  same_Some v w h = cc

  there : (m : ℕ) (v : Version) (vs : List Version) (xs : List ℕ) → slice_get whole m ≡ Some v → q v ≡ true → AreFrom m xs
      → ((ys : List ℕ) → AreFrom (suc m) ys → chosen ys ≡ map (λ w. Some (is_in w)) (filter q vs)) → chosen xs ≡ map (λ w. Some (is_in w)) (filter q (v ∷ vs))
  there m v vs xs at passes a ih =
      let f = first_is m xs a (v, at, passes) in
      ap chosen f.1
      ∙ (ap (λ o. option_map is_in o ∷ chosen f.0) at
      ∙ (ap (λ c. Some (is_in v) ∷ c) (ih f.0 f.2)
      ∙ sym (ap (λ b. map (λ w. Some (is_in w)) (cond b (v ∷ filter q vs) (filter q vs))) passes)))

  other : (m : ℕ) (v : Version) (vs : List Version) (xs : List ℕ) → slice_get whole m ≡ Some v → q v ≡ false → AreFrom m xs
      → ((ys : List ℕ) → AreFrom (suc m) ys → chosen ys ≡ map (λ w. Some (is_in w)) (filter q vs)) → chosen xs ≡ map (λ w. Some (is_in w)) (filter q (v ∷ vs))
  other m v vs xs at fails a ih =
      ih xs (skip m xs a (λ p. false≢true (sym fails ∙ ap q (same_Some v p.0 (sym at ∙ p.1)) ∙ p.2)))
      ∙ sym (ap (λ b. map (λ w. Some (is_in w)) (cond b (v ∷ filter q vs) (filter q vs))) fails)

  chosen_is : (prefix vs : List Version) (xs : List ℕ) → whole ≡ prefix ++ vs → AreFrom (length prefix) xs → chosen xs ≡ map (λ w. Some (is_in w)) (filter q vs)
  chosen_is prefix [] xs is a =
      ap chosen (none_left (length prefix) xs a (λ n l p. get_end prefix n p.0 l (sym (ap (λ ws. slice_get ws n) is) ∙ p.1)))
  chosen_is prefix (v ∷ vs) xs is a =
      let at : slice_get whole (length prefix) ≡ Some v = ap (λ ws. slice_get ws (length prefix)) is ∙ get_seam prefix v vs in
      let moved : whole ≡ (prefix ++ v ∷ []) ++ vs = is ∙ sym (append_assoc prefix (v ∷ []) vs) in
      let long : suc (length prefix) ≡ length (prefix ++ v ∷ []) = omega (arith, length-append prefix (v ∷ [])) in
      let ih : (ys : List ℕ) → AreFrom (suc (length prefix)) ys → chosen ys ≡ map (λ w. Some (is_in w)) (filter q vs) = λ ys b. chosen_is (prefix ++ v ∷ []) vs ys moved (subst (λ k. AreFrom k ys) long b) in
      elim (cases_Bool (q v)) [
        | inl e ↦ there (length prefix) v vs xs at e a ih
        | inr e ↦ other (length prefix) v vs xs at e a ih
      ]

twice : (xs : List Version) → map (λ w. Some (is_in w)) xs ≡ somes (map is_in xs)
twice [] = refl
twice (x ∷ xs) = ap (λ ys. Some (is_in x) ∷ ys) (twice xs)

-- ---- the versions that a SPEC picks

-- which versions pass, by their names and numbers
passes_by : (s : Spec) (outside : Bool) (v : Version) → v.name ≡ s.name → passes s outside v ≡ is_picked s.span outside v.number
passes_by s true v named =
    let own : bytes_eq v.name s.name ≡ true = (bytes_eq-Decides v.name s.name).1 named in
    ap (λ b. b && not (b && is_in_span s.span v.number)) own
passes_by s false v named =
    let own : bytes_eq v.name s.name ≡ true = (bytes_eq-Decides v.name s.name).1 named in
    ap (λ b. b && is_in_span s.span v.number) own

name_is : (s : Spec) (outside : Bool) (v : Version) → passes s outside v ≡ true → v.name ≡ s.name
name_is s true v h = (bytes_eq-Decides v.name s.name).0 (and_parts _ _ h).0
name_is s false v h = (bytes_eq-Decides v.name s.name).0 (and_parts _ _ h).0

-- The literals of the versions that a SPEC picks are those of the listed versions that pass.
pub picked_are : (vs : List Version) (s : Spec) (outside : Bool) (numbers : List ℕ) → AreAll numbers (IsPicked vs s outside) → map (positive_at vs) numbers ≡ somes (map is_in (filter (passes s outside) vs))
picked_are vs s outside numbers all =
    chosen_is vs (passes s outside) [] vs numbers refl (record {
      rising = above_from 0 numbers all.rising (λ h. omega arith);
      each = λ n i. let p = (all.all n).0 (from_in n numbers i) in (p.0, p.1, passes_by s outside p.0 p.2 ∙ p.3);
      all = λ n l p. let named = name_is s outside p.0 p.2 in in_from n numbers ((all.all n).1 (p.0, p.1, named, sym (passes_by s outside p.0 named) ∙ p.2));
    })
    ∙ twice (filter (passes s outside) vs)
