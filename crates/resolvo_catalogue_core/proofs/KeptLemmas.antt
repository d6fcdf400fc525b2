-- What a table keeps by numbers, as its lines say it: the rule of a line, and the versions of a package.
use Rattle.std.proofs.Common.{◌≡◌, ◌∙◌, ◌⊎◌, inl, inr, ◌==◌, ◌+◌, ◌<◌, ◌≤◌, ℕ, zero, suc, Bool, true, List, [], ◌∷◌, length, get_or, map, Option, Some, None, option_map, refl, sym, ap, subst, arith}
use Rattle.std.specs.Prelude.{Contains, slice_get, slice_index_or, option_and_then, nat_lt}
use Rattle.std.specs.List.Sorted.{IsStrictlyIncreasing}
use Rattle.std.proofs.lemmas.Bool.{and_parts, cases_Bool, cases_lt, false≢true}
use Rattle.std.proofs.lemmas.Bool.Decides.{Decides-eqb, nat_tests}
use Rattle.std.proofs.lemmas.Option.{slice_get-get_or, slice_get-map, same_Some}
use Rattle.resolvo_text.specs.Line.{Version}
use Rattle.resolvo_catalogue_core.specs.Held.{kind_at, rule_of}
use Rattle.resolvo_catalogue_core.specs.Kept.{KeptLines, AreKept, places_from, rule_at}
use Rattle.resolvo_catalogue_core.specs.Listed.{is_kept, are_kept, kept_version, name_at}
use Rattle.resolvo_catalogue_core.specs.Packages.{package_at}
use Rattle.resolvo_catalogue_core.specs.Questions.{AreAll, IsOfPackage}
use Rattle.resolvo_catalogue_core.specs.Table.{IsTable, HasFew, lines_in, versions_in, kinds_in, numbers_in, package_named}
use Rattle.resolvo_catalogue_core.specs.LineKind.{LineKind}
use Rattle.resolvo_catalogue_core.specs.declared.package.Package.{Package}
use Rattle.resolvo_catalogue_core.specs.declared.table.Table.{Table}
use Rattle.resolvo_catalogue_core.specs.declared.versions.KeptVersion.{KeptVersion}
use Rattle.resolvo_catalogue_core.proofs.CatalogueFacts.{rule_is_line, no_rule, kept, distinct_listed}
use Rattle.resolvo_catalogue_core.proofs.PackageLemmas.{named_at}

-- ---- rules

pub rule_at_kind : (kinds : List LineKind) (n : ℕ) → option_and_then rule_of (kind_at kinds n) ≡ rule_at (map rule_of kinds) n
rule_at_kind kinds zero = refl
rule_at_kind [] (suc n) = refl
rule_at_kind (k ∷ kinds) (suc zero) = refl
rule_at_kind (k ∷ kinds) (suc (suc n)) = rule_at_kind kinds (suc n)

-- a table by numbers
abbrev pub kept_view : Table → KeptLines
kept_view t = record { terms = t.terms; lines = lines_in t; versions = t.versions.items; rules = map rule_of (kinds_in t); owned = t.owned }

pub kept_by : (t : Table) → IsTable t → HasFew t → AreKept (kept_view t)
kept_by t keeps few = record {
  versions = sym keeps.listing;
  named = keeps.named;
  distinct = distinct_listed t (lines_in t) refl keeps;
  rules = λ n r e. rule_is_line t (lines_in t) refl keeps n r (rule_at_kind (kinds_in t) n ∙ e);
  none = λ n e. no_rule t (lines_in t) refl n (rule_at_kind (kinds_in t) n ∙ e);
  few = few;
  as_many = keeps.as_many ∙ ap (λ (vs : List Version). length vs) (sym keeps.listing);
  owned = (kept t (lines_in t) refl keeps).owned;
}

-- ---- members of rising lists

abbrev In : ℕ → List ℕ → Type 0
In n [] = ⊥
In n (x ∷ xs) = (x ≡ n) ⊎ In n xs

in_from : (n : ℕ) (xs : List ℕ) → Contains xs n → In n xs
in_from n xs c = at xs c.0 c.1 c.2 where
  at : (ys : List ℕ) (k : ℕ) → k < length ys → slice_index_or ys k n ≡ n → In n ys
  at [] k l e = absurd (omega arith)
  at (y ∷ ys) zero l e = inl e
  at (y ∷ ys) (suc k) l e = inr (at ys k (omega arith) e)

from_in : (n : ℕ) (xs : List ℕ) → In n xs → Contains xs n
from_in n [] h = absurd h
from_in n (x ∷ xs) h = elim h [
  | inl e ↦ (0, omega arith, e)
  | inr i ↦ let c = from_in n xs i in (suc c.0, omega (arith, c.1), c.2)
]

-- each is above the one before, and at least m
abbrev Above : ℕ → List ℕ → Type 0
Above m [] = Unit {0}
Above m (x ∷ xs) = (m ≤ x) × Above (suc x) xs

above_from : (m : ℕ) (xs : List ℕ) → IsStrictlyIncreasing xs → (0 < length xs → m ≤ get_or xs 0 0) → Above m xs
above_from m [] r f = tt
above_from m (x ∷ xs) r f = (f (omega arith), above_from (suc x) xs (λ k h. next k h) (λ l. let s : x < get_or xs 0 0 = r 0 (omega arith) in omega (arith, s))) where
  next : (k : ℕ) → k + 1 < length xs → get_or xs k 0 < get_or xs (k + 1) 0
  next k h = let e : suc k + 1 ≡ suc (k + 1) = omega arith in subst (λ (n : ℕ). get_or xs k 0 < get_or (x ∷ xs) n 0) e (r (suc k) (omega (arith, h)))

in_above : (m n : ℕ) (xs : List ℕ) → Above m xs → In n xs → m ≤ n
in_above m n [] a i = absurd i
in_above m n (x ∷ xs) a i = elim i [
  | inl e ↦ let b : m ≤ x = a.0 in omega (arith, b, e)
  | inr j ↦ let b : m ≤ x = a.0 in let c : suc x ≤ n = in_above (suc x) n xs a.1 j in omega (arith, b, c)
]

above_more : (m : ℕ) (xs : List ℕ) → Above m xs → (In m xs → ⊥) → Above (suc m) xs
above_more m [] a n = tt
above_more m (x ∷ xs) a n = let l : m ≤ x = a.0 in elim (cases_lt m x) [
  | inl h ↦ (omega (arith, h), a.1)
  | inr h ↦ absurd (n (inl (let e : x ≡ m = omega (arith, l, h) in e)))
]

-- the rest of a rising list whose first number is known
first_is : (m : ℕ) (xs : List ℕ) → Above m xs → In m xs → (ys : List ℕ) × (xs ≡ m ∷ ys) × Above (suc m) ys
first_is m [] a i = absurd i
first_is m (x ∷ xs) a i =
    let l : m ≤ x = a.0 in
    let g : x ≤ m = elim i [ inl e ↦ omega (arith, e) | inr j ↦ let b : suc x ≤ m = in_above (suc x) m xs a.1 j in omega (arith, b) ] in
    let e : x ≡ m = omega (arith, l, g) in
    (xs, ap (λ (k : ℕ). k ∷ xs) e, subst (λ (k : ℕ). Above (suc k) xs) e a.1)

-- ---- places of the elements that pass a test

module _ {X : Type 0} (test : X → Bool) where
  -- the element of this number passes, the first one's number being given
  abbrev IsPlace : ℕ → List X → ℕ → Type 0
  IsPlace at xs n = (i : ℕ) × (x : X) × (n ≡ at + i) × (slice_get xs i ≡ Some x) × (test x ≡ true)

  later : (at : ℕ) (x : X) (xs : List X) (n : ℕ) → IsPlace (suc at) xs n → IsPlace at (x ∷ xs) n
  later at x xs n (i, y, e, is, t) = (suc i, y, omega (arith, e), is, t)

  not_first : (at : ℕ) (x : X) (xs : List X) (n : ℕ) → IsPlace at (x ∷ xs) n → (n ≡ at → ⊥) → IsPlace (suc at) xs n
  not_first at x xs n (zero, y, e, is, t) apart = absurd (apart (omega (arith, e)))
  not_first at x xs n (suc i, y, e, is, t) apart = (i, y, omega (arith, e), is, t)

  passes : (at : ℕ) (x : X) (xs : List X) → IsPlace at (x ∷ xs) at → test x ≡ true
  passes at x xs (zero, y, e, is, t) = subst (λ (z : X). test z ≡ true) (sym (same_Some x y is)) t
  passes at x xs (suc i, y, e, is, t) = absurd (omega (arith, e))

  -- a rising list of the places
  pub places_are : (at : ℕ) (xs : List X) (ns : List ℕ) → Above at ns → ((n : ℕ) → In n ns → IsPlace at xs n) → ((n : ℕ) → IsPlace at xs n → In n ns) → ns ≡ places_from test at xs
  places_are at [] [] above each all = refl
  places_are at [] (n ∷ ns) above each all = let h = each n (inl refl) in let is = h.3 in absurd cc
  places_are at (x ∷ xs) ns above each all = elim (cases_Bool (test x)) [
    | inl passed ↦
        let here : at ≡ at + 0 = omega arith in
        let f = first_is at ns above (all at (0, x, here, refl, passed)) in
        let ys = f.0 in
        let from : (n : ℕ) → In n ys → IsPlace (suc at) xs n = λ n i. not_first at x xs n (each n (subst (λ (zs : List ℕ). In n zs) (sym f.1) (inr i))) (λ e. let b : suc at ≤ n = in_above (suc at) n ys f.2 i in omega (arith, b, e)) in
        let to : (n : ℕ) → IsPlace (suc at) xs n → In n ys = λ n p. elim (subst (λ (zs : List ℕ). In n zs) f.1 (all n (later at x xs n p))) [ inl e ↦ absurd (omega (arith, e, p.2)) | inr i ↦ i ] in
        rw passed (f.1 ∙ ap (λ (zs : List ℕ). at ∷ zs) (places_are (suc at) xs ys f.2 from to))
    | inr failed ↦
        let out : In at ns → ⊥ = λ i. false≢true (sym failed ∙ passes at x xs (each at i)) in
        let from : (n : ℕ) → In n ns → IsPlace (suc at) xs n = λ n i. not_first at x xs n (each n i) (λ e. out (subst (λ (k : ℕ). In k ns) e i)) in
        rw failed (places_are (suc at) xs ns (above_more at ns above out) from (λ n p. all n (later at x xs n p)))
  ]

-- ---- the versions of a package

below : (a b : ℕ) → nat_lt a b ≡ true → a < b
below a b e = grind (arith, nat_tests)

in_range : (count : ℕ) (vs : List KeptVersion) (k : ℕ) (v : KeptVersion) → are_kept count vs ≡ true → slice_get vs k ≡ Some v → v.«package».raw < count
in_range count [] k v all at = absurd cc
in_range count (w ∷ vs) zero v all at = subst (λ (x : KeptVersion). x.«package».raw < count) (same_Some w v at) (below w.«package».raw count (and_parts (is_kept count w) (are_kept count vs) all).0)
in_range count (w ∷ vs) (suc k) v all at = in_range count vs k v (and_parts (is_kept count w) (are_kept count vs) all).1 at

past_places : (ps : List Package) (n : ℕ) → length ps ≤ n → package_at ps n ≡ None
past_places [] n past = refl
past_places (p ∷ ps) zero past = absurd (omega (arith, past))
past_places (p ∷ ps) (suc n) past = past_places ps n (omega (arith, past))

kept_of_named : (names : List (List ℕ)) (o : Option KeptVersion) (v : Version) → option_map (kept_version names) o ≡ Some v → (k : KeptVersion) × (o ≡ Some k) × (kept_version names k ≡ v)
kept_of_named names None v e = absurd cc
kept_of_named names (Some k) v e = (k, refl, same_Some (kept_version names k) v e)

-- the version of a number as it is kept, and as it is listed
pub kept_is : (t : Table) (k : ℕ) (kept : KeptVersion) (v : Version) → slice_get t.versions.items k ≡ Some kept → slice_get (versions_in t) k ≡ Some v → kept_version t.terms.names kept ≡ v
kept_is t k kept v at listed =
    let version = kept_version t.terms.names in
    same_Some (version kept) v (sym (slice_get-map version t.versions.items k ∙ ap (λ (o : Option KeptVersion). option_map version o) at) ∙ listed)

-- the name of its package is among those of the table
pub package_called : (t : Table) → IsTable t → (k : ℕ) (kept : KeptVersion) → slice_get t.versions.items k ≡ Some kept → slice_get t.terms.names kept.«package».raw ≡ Some (name_at t.terms.names kept.«package».raw)
package_called t keeps k kept at =
    let names = t.terms.names in
    slice_get-get_or names kept.«package».raw [] (in_range (length names) t.versions.items k kept keeps.named at)

-- the package of a kept version is that of its name
pub package_kept : (t : Table) → IsTable t → (k : ℕ) (kept : KeptVersion) → slice_get t.versions.items k ≡ Some kept → package_at t.packages.places.items kept.«package».raw ≡ package_named t (name_at t.terms.names kept.«package».raw)
package_kept t keeps k kept at =
    let names = t.terms.names in
    let id = kept.«package».raw in
    named_at names t.packages (name_at names id) id keeps.sound.names (package_called t keeps k kept at)

pub package_places : (t : Table) → IsTable t → (n : ℕ) → numbers_in (package_at t.packages.places.items n) ≡ places_from (λ (v : KeptVersion). v.«package».raw == n) 0 t.versions.items
package_places t keeps n = elim (cases_lt n (length names)) [
  | inl within ↦ known within
  | inr past ↦
      let none : package_at places n ≡ None = past_places places n (omega (arith, past, keeps.places)) in
      ap numbers_in none ∙ places_are test 0 vs [] tt (λ m i. absurd i) (λ m (i, v, e, at, passed). let same : v.«package».raw ≡ n = (Decides-eqb v.«package».raw n).0 passed in let b = in_range (length names) vs i v keeps.named at in omega (arith, b, same, past))
]
  where
    names : List (List ℕ)
    names = t.terms.names

    places : List Package
    places = t.packages.places.items

    vs : List KeptVersion
    vs = t.versions.items

    test : KeptVersion → Bool
    test = λ v. v.«package».raw == n

    known : n < length names → numbers_in (package_at places n) ≡ places_from test 0 vs
    known within =
        let name = get_or names n [] in
        let at : slice_get names n ≡ Some name = slice_get-get_or names n [] within in
        let same : package_at places n ≡ package_named t name = named_at names t.packages name n keeps.sound.names at in
        let ns = numbers_in (package_named t name) in
        let own : AreAll ns (IsOfPackage (versions_in t) name) = (keeps.packages name).all in
        let each : (m : ℕ) → In m ns → IsPlace test 0 vs m = λ m i.
        let h = (own.all m).0 (from_in m ns i) in
        let k = kept_of_named names (slice_get vs m) h.0 (sym (slice_get-map (kept_version names) vs m) ∙ h.1) in
        let r : k.0.«package».raw < length names = in_range (length names) vs m k.0 keeps.named k.1 in
        let there : slice_get names k.0.«package».raw ≡ Some name = slice_get-get_or names k.0.«package».raw [] r ∙ ap (λ (x : List ℕ). Some x) (ap (λ (v : Version). v.name) k.2 ∙ h.2) in
        let one : k.0.«package».raw ≡ n = keeps.sound.names k.0.«package».raw n name there at in
        let zeroth : m ≡ 0 + m = omega arith in
        (m, k.0, zeroth, k.1, (Decides-eqb k.0.«package».raw n).1 one) in
        let all : (m : ℕ) → IsPlace test 0 vs m → In m ns = λ m (i, v, e, is, passed).
        let one : v.«package».raw ≡ n = (Decides-eqb v.«package».raw n).0 passed in
        let here : i ≡ m = omega (arith, e) in
        let listed : slice_get (versions_in t) m ≡ Some (kept_version names v) = slice_get-map (kept_version names) vs m ∙ ap (λ (o : Option KeptVersion). option_map (kept_version names) o) (subst (λ (k : ℕ). slice_get vs k ≡ Some v) here is) in
        in_from m ns ((own.all m).1 (kept_version names v, listed, ap (λ (k : ℕ). name_at names k) one)) in
        ap numbers_in same ∙ places_are test 0 vs ns (above_from 0 ns own.rising (λ l. omega arith)) each all
