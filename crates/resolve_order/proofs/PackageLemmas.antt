-- The number of a package's first version, and maps by these numbers.
use Rattle.std.proofs.Common.{◌≡◌, inl, inr, ℕ, zero, suc, ◌<◌, ◌≤◌, Bool, true, false, if◌then◌else◌, ◌&&◌, List, [], ◌∷◌, length, map, ◌+◌, Option, Some, None, refl, sym, ap, subst, ◌∙◌, get_or, arith}
use Rattle.std.specs.Prelude.{slice_get, Contains, ◌==◌, nat_lt}
use Rattle.std.specs.Option.{option_map, option_and_then}
use Rattle.std.specs.BTreeMap.{BTreeMap, get, is_at}
use Rattle.std.specs.Map.{lookup}
use Rattle.std.specs.Ordering.{nat_cmp}
use Rattle.std.specs.Str.{bytes_eq}
use Rattle.std.proofs.lemmas.Bool.{false≢true, cases_Bool, eqb-true, eq-eqb, and_parts}
use Rattle.std.proofs.lemmas.Bool.Decides.{nat_tests}
use Rattle.std.proofs.lemmas.Option.{slice_get-get_or, slice_get-map}
use Rattle.std.proofs.lemmas.List.Kept.{AllPairs-from_increasing}
use Rattle.std.proofs.lemmas.Slice.Eq.{bytes_eq-Decides}
use Rattle.resolvo_text.specs.Line.{Version, Line}
use Rattle.resolvo_text.specs.Matches.{same_version}
use Rattle.resolvo_terms.specs.Terms.{NameId, AreOnce, AreSound}
use Rattle.resolvo_terms.specs.Known.{name_text}
use Rattle.resolvo_catalogue_core.specs.Kept.{KeptLines, AreKept, places_from}
use Rattle.resolvo_catalogue_core.specs.Listed.{listed, name_at, kept_version, kept_versions, is_kept, are_kept}
use Rattle.resolvo_catalogue_core.specs.declared.versions.KeptVersion.{KeptVersion}
use Rattle.resolvo_catalogue_core.specs.Questions.{AreAll, IsOfPackage, number_of}
use Rattle.resolvo_catalogue_core.specs.declared.rule.VersionNo.{VersionNo}
use Rattle.resolve_order.specs.Numbers.{version_in}
use Rattle.resolve_order.specs.Kept.{first_of, by_name, numbers_in, favoured_in}
use Rattle.resolve_order.specs.declared.version_table.VersionTable.{VersionTable}
use Rattle.resolve_order.proofs.Elements.{first_element}
use Rattle.resolve_order.proofs.NumberLemmas.{PutsNumber}

-- ---- first versions

-- it is of the package
pub first_is : (versions : List Version) (name : List ℕ) (k : ℕ) → first_of versions name ≡ Some k → (v : Version) × (slice_get versions k ≡ Some v) × (v.name ≡ name)
first_is [] name k e = absurd cc
first_is (v ∷ versions) name k e = of (first_is versions name) (bytes_eq v.name name) refl (first_of versions name) refl e
  where
    of : ((j : ℕ) → first_of versions name ≡ Some j → (w : Version) × (slice_get versions j ≡ Some w) × (w.name ≡ name)) → (b : Bool) → bytes_eq v.name name ≡ b → (o : Option ℕ) → first_of versions name ≡ o → (if b then Some 0 else option_map suc o) ≡ Some k → (w : Version) × (slice_get (v ∷ versions) k ≡ Some w) × (w.name ≡ name)
    of rest true t o h e =
        let is : 0 ≡ k = cc in
        (v, subst (λ (i : ℕ). slice_get (v ∷ versions) i ≡ Some v) is refl, (bytes_eq-Decides v.name name).0 t)
    of rest false t None h e = absurd cc
    of rest false t (Some j) h e =
        let w = rest j h in
        let is : suc j ≡ k = cc in
        (w.0, subst (λ (i : ℕ). slice_get (v ∷ versions) i ≡ Some w.0) is w.1, w.2)

-- a package without one has no version
pub none_first : (versions : List Version) (name : List ℕ) → ((j : ℕ) (w : Version) → slice_get versions j ≡ Some w → w.name ≡ name → ⊥) → first_of versions name ≡ None
none_first [] name none = refl
none_first (v ∷ versions) name none = elim (cases_Bool (bytes_eq v.name name)) [
  | inl t ↦ absurd (none 0 v refl ((bytes_eq-Decides v.name name).0 t))
  | inr f ↦
      ap (λ (b : Bool). if b then Some 0 else option_map suc (first_of versions name)) f
      ∙ ap (λ (o : Option ℕ). option_map suc o) (none_first versions name (λ j w at is. none (suc j) w at is))
]

-- the least number of a version of the package
pub least_first : (versions : List Version) (name : List ℕ) (k : ℕ) (v : Version) → slice_get versions k ≡ Some v → v.name ≡ name → ((j : ℕ) (w : Version) → slice_get versions j ≡ Some w → w.name ≡ name → k ≤ j) → first_of versions name ≡ Some k
least_first [] name k v at is least = absurd cc
least_first (u ∷ versions) name zero v at is least =
    let same : u ≡ v = cc in
    ap (λ (b : Bool). if b then Some 0 else option_map suc (first_of versions name)) ((bytes_eq-Decides u.name name).1 (ap (λ (x : Version). x.name) same ∙ is))
least_first (u ∷ versions) name (suc k) v at is least = elim (cases_Bool (bytes_eq u.name name)) [
  | inl t ↦ absurd (let low = least 0 u refl ((bytes_eq-Decides u.name name).0 t) in omega (arith, low))
  | inr f ↦
      ap (λ (b : Bool). if b then Some 0 else option_map suc (first_of versions name)) f
      ∙ ap (λ (o : Option ℕ). option_map suc o) (least_first versions name k v at is (λ j w at_w is_w. let low = least (suc j) w at_w is_w in omega (arith, low)))
]

-- each version's package has one
pub has_first : (versions : List Version) (n : ℕ) (v : Version) → slice_get versions n ≡ Some v → first_of versions v.name ≡ None → ⊥
has_first [] n v at none = absurd cc
has_first (u ∷ versions) n v at none = of (λ m at_m h. has_first versions m v at_m h) (bytes_eq u.name v.name) refl (first_of versions v.name) refl none n at
  where
    of : ((m : ℕ) → slice_get versions m ≡ Some v → first_of versions v.name ≡ None → ⊥) → (b : Bool) → bytes_eq u.name v.name ≡ b → (o : Option ℕ) → first_of versions v.name ≡ o → (if b then Some 0 else option_map suc o) ≡ None → (n : ℕ) → slice_get (u ∷ versions) n ≡ Some v → ⊥
    of rest true t o h e n at = absurd cc
    of rest false t (Some j) h e n at = absurd cc
    of rest false t None h e zero at =
        let same : u ≡ v = cc in
        false≢true (sym t ∙ (bytes_eq-Decides u.name v.name).1 (ap (λ (x : Version). x.name) same))
    of rest false t None h e (suc m) at = rest m at h

-- ---- the versions of a package, rising

pub first_of_none : (versions : List Version) (name numbers : List ℕ) → AreAll numbers (IsOfPackage versions name) → numbers ≡ [] → first_of versions name ≡ None
first_of_none versions name numbers are none = none_first versions name (λ j w at is.
    let c : Contains [] j = subst (λ (ns : List ℕ). Contains ns j) none ((are.all j).1 (w, at, is)) in
    let less : c.0 < 0 = c.1 in absurd (omega (arith, less)))

pub first_of_some : (versions : List Version) (name : List ℕ) (n : ℕ) (numbers : List ℕ) → AreAll (n ∷ numbers) (IsOfPackage versions name) → first_of versions name ≡ Some n
first_of_some versions name n numbers are =
    let here = (are.all n).0 (first_element n numbers) in
    least_first versions name n here.0 here.1 here.2 (λ j w at is. low j ((are.all j).1 (w, at, is)))
  where
    low : (j : ℕ) → Contains (n ∷ numbers) j → n ≤ j
    low j c = from c.0 c.1 c.2
      where
        from : (i : ℕ) → i < length (n ∷ numbers) → get_or (n ∷ numbers) i j ≡ j → n ≤ j
        from zero lt is = let e : n ≡ j = is in omega (arith, e)
        from (suc i) lt is =
            let less : n < get_or (n ∷ numbers) (suc i) j = AllPairs-from_increasing (n ∷ numbers) are.rising 0 (suc i) j (omega arith) lt in
            omega (arith, less, is)

-- the first of them, if there is one
pub first_named : (versions : List Version) (name : List ℕ) (numbers : List VersionNo) (o : Option VersionNo) → AreAll (map number_of numbers) (IsOfPackage versions name) → o ≡ slice_get numbers 0 → option_map number_of o ≡ first_of versions name
first_named versions name [] o are is = ap (λ (x : Option VersionNo). option_map number_of x) is ∙ sym (first_of_none versions name [] are refl)
first_named versions name (n ∷ numbers) o are is = ap (λ (x : Option VersionNo). option_map number_of x) is ∙ sym (first_of_some versions name n.0 (map number_of numbers) are)

-- ---- the same by the numbers of names

-- of two numbers in range, whether their names are the same
same_number : (names : List (List ℕ)) (a b : ℕ) → AreOnce names → a < length names → b < length names → bytes_eq (name_at names a) (name_at names b) ≡ (a == b)
same_number names a b once la lb = elim (cases_Bool (a == b)) [
  | inl t ↦ (bytes_eq-Decides (name_at names a) (name_at names b)).1 (ap (λ (k : ℕ). name_at names k) (eqb-true a b t)) ∙ sym t
  | inr f ↦ elim (cases_Bool (bytes_eq (name_at names a) (name_at names b))) [
    | inl s ↦ absurd (false≢true (sym f ∙ eq-eqb a b (once a b (name_at names a) (slice_get-get_or names a [] la)
        (slice_get-get_or names b [] lb ∙ ap (λ (x : List ℕ). Some x) (sym ((bytes_eq-Decides (name_at names a) (name_at names b)).0 s))))))
    | inr s ↦ s ∙ sym f
  ]
]

below : (a b : ℕ) → nat_lt a b ≡ true → a < b
below a b e = grind (arith, nat_tests)

-- one version more before the others
first_step : (b t : Bool) (o : Option ℕ) (at : ℕ) (xs : List ℕ) → t ≡ b → slice_get xs 0 ≡ option_map (λ (k : ℕ). suc at + k) o
    → slice_get (if b then at ∷ xs else xs) 0 ≡ option_map (λ (k : ℕ). at + k) (if t then Some 0 else option_map suc o)
first_step true t o at xs is h =
    let same : at ≡ at + 0 = omega arith in
    ap (λ (k : ℕ). Some k) same ∙ ap (λ (x : Bool). option_map (λ (k : ℕ). at + k) (if x then Some 0 else option_map suc o)) (sym is)
first_step false t None at xs is h = h ∙ ap (λ (x : Bool). option_map (λ (k : ℕ). at + k) (if x then Some 0 else None)) (sym is)
first_step false t (Some j) at xs is h =
    let same : suc at + j ≡ at + suc j = omega arith in
    h ∙ ap (λ (k : ℕ). Some k) same ∙ ap (λ (x : Bool). option_map (λ (k : ℕ). at + k) (if x then Some 0 else Some (suc j))) (sym is)

first_from : (names : List (List ℕ)) (vs : List KeptVersion) (n at : ℕ) → AreOnce names → are_kept (length names) vs ≡ true → n < length names
    → slice_get (places_from (λ (v : KeptVersion). v.«package».raw == n) at vs) 0 ≡ option_map (λ (k : ℕ). at + k) (first_of (kept_versions names vs) (name_at names n))
first_from names [] n at once e lt = refl
first_from names (v ∷ vs) n at once e lt =
    let parts = and_parts (is_kept (length names) v) (are_kept (length names) vs) e in
    first_step (v.«package».raw == n) (bytes_eq (name_at names v.«package».raw) (name_at names n)) (first_of (kept_versions names vs) (name_at names n)) at
    (places_from (λ (v : KeptVersion). v.«package».raw == n) (suc at) vs) (same_number names v.«package».raw n once (below v.«package».raw (length names) parts.0) lt)
    (first_from names vs n (suc at) once parts.1 lt)

-- a number is that of a name, where a version is listed by it
pub within_names : (count n at k : ℕ) (vs : List KeptVersion) → are_kept count vs ≡ true → slice_get (places_from (λ (v : KeptVersion). v.«package».raw == n) at vs) 0 ≡ Some k → n < count
within_names count n at k [] e some = absurd cc
within_names count n at k (v ∷ vs) e some =
    let parts = and_parts (is_kept count v) (are_kept count vs) e in
    let others : List ℕ = places_from (λ (w : KeptVersion). w.«package».raw == n) (suc at) vs in
    elim (cases_Bool (v.«package».raw == n)) [
      | inl t ↦ subst (λ (m : ℕ). m < count) (eqb-true v.«package».raw n t) (below v.«package».raw count parts.0)
      | inr f ↦ within_names count n (suc at) k vs parts.1 (subst (λ (b : Bool). slice_get (if b then at ∷ others else others) 0 ≡ Some k) f some)
    ]

-- the first version whose package has a name of this number
pub first_numbered : (k : KeptLines) (name : NameId) (numbers : List VersionNo) (o : Option VersionNo) → AreKept k → AreSound k.terms → name.raw < length k.terms.names
    → map number_of numbers ≡ places_from (λ (v : KeptVersion). v.«package».raw == name.raw) 0 k.versions → o ≡ slice_get numbers 0
    → option_map number_of o ≡ first_of (listed k.lines) (name_text k.terms name)
first_numbered k name numbers o kept sound lt places is =
    ap (option_map number_of) is ∙ sym (slice_get-map number_of numbers 0) ∙ ap (λ (xs : List ℕ). slice_get xs 0) places
    ∙ first_from k.terms.names k.versions name.raw 0 sound.names kept.named lt ∙ zero_more (first_of (kept_versions k.terms.names k.versions) (name_text k.terms name))
    ∙ ap (λ (vs : List Version). first_of vs (name_text k.terms name)) kept.versions
  where
    zero_more : (o : Option ℕ) → option_map (λ (j : ℕ). 0 + j) o ≡ o
    zero_more None = refl
    zero_more (Some j) =
        let same : 0 + j ≡ j = omega arith in
        ap (λ (n : ℕ). Some n) same

-- the version at a place, by the number of its package's name
pub version_kept : (k : KeptLines) (lines : List Line) (n : ℕ) (o : Option KeptVersion) → AreKept k → k.lines ≡ lines → o ≡ slice_get k.versions n
    → slice_get (listed lines) n ≡ option_map (kept_version k.terms.names) o
version_kept k lines n o kept same at =
    ap (λ (ls : List Line). slice_get (listed ls) n) (sym same) ∙ ap (λ (vs : List Version). slice_get vs n) (sym kept.versions)
    ∙ slice_get-map (kept_version k.terms.names) k.versions n ∙ ap (option_map (kept_version k.terms.names)) (sym at)

-- ---- tables by packages

-- a package of another name
first_apart : (versions : List Version) (v : Version) (p : ℕ) (name : List ℕ) (o : Option ℕ) → first_of versions v.name ≡ Some p → first_of versions name ≡ o → (o ≡ Some p → ⊥) → bytes_eq v.name name ≡ false
first_apart versions v p name o first e differs = elim (cases_Bool (bytes_eq v.name name)) [
  | inl t ↦ absurd (differs (sym e ∙ ap (λ (x : List ℕ). first_of versions x) (sym ((bytes_eq-Decides v.name name).0 t)) ∙ first))
  | inr f ↦ f
]

-- names are the same where the first versions are
first_test : (versions : List Version) (v : Version) (p : ℕ) (name : List ℕ) (k : ℕ) → first_of versions v.name ≡ Some p → first_of versions name ≡ Some k → p == k ≡ bytes_eq v.name name
first_test versions v p name k first e = elim (cases_Bool (p == k)) [
  | inl t ↦ t ∙ sym ((bytes_eq-Decides v.name name).1 (same_name (eqb-true p k t)))
  | inr f ↦ f ∙ sym (first_apart versions v p name (Some k) first e (λ same. let is : k ≡ p = cc in false≢true (sym f ∙ eq-eqb p k (sym is))))
]
  where
    same_name : p ≡ k → v.name ≡ name
    same_name same =
        let w = first_is versions name k e in
        let u = first_is versions v.name p first in
        let one : u.0 ≡ w.0 = (let a = subst (λ (i : ℕ). slice_get versions i ≡ Some u.0) same u.1 in let b = w.1 in cc) in
        sym u.2 ∙ ap (λ (x : Version). x.name) one ∙ w.2

-- a table was changed at the place of a version
pub puts_at : (versions : List Version) (v : Version) (p number : ℕ) (n : Option VersionNo) (before after : VersionTable) → first_of versions v.name ≡ Some p → v.number ≡ number
    → ((k q : ℕ) → version_in after k q ≡ (if p == k && number == q then n else version_in before k q)) → (name : List ℕ) → PutsNumber v n name (by_name versions before name) (by_name versions after name)
puts_at versions v p number n before after first is puts name = λ q. of (first_of versions name) refl q
  where
    of : (o : Option ℕ) → first_of versions name ≡ o → (q : ℕ) → numbers_in after o q ≡ (if same_version v (record { name = name; number = q }) then n else numbers_in before o q)
    of None e q = sym (ap (λ (b : Bool). let x : Option VersionNo = if b && v.number == q then n else None in x) (first_apart versions v p name None first e (λ same. absurd cc)))
    of (Some k) e q =
        puts k q ∙ ap (λ (b : Bool). if b && number == q then n else version_in before k q) (first_test versions v p name k first e)
        ∙ ap (λ (i : ℕ). if bytes_eq v.name name && i == q then n else version_in before k q) (sym is)

-- a map was changed at the package of a version
pub favoured_put : (versions : List Version) (v : Version) (p : ℕ) (n : VersionNo) (before after : BTreeMap ℕ VersionNo) (name : List ℕ) → first_of versions v.name ≡ Some p → ((k : ℕ) → get nat_cmp after k ≡ (if p == k then Some n else get nat_cmp before k))
    → favoured_in versions after name ≡ (if bytes_eq v.name name then Some n else favoured_in versions before name)
favoured_put versions v p n before after name first puts = of (first_of versions name) refl
  where
    of : (o : Option ℕ) → first_of versions name ≡ o → option_and_then (λ k. get nat_cmp after k) o ≡ (if bytes_eq v.name name then Some n else option_and_then (λ k. get nat_cmp before k) o)
    of None e = sym (ap (λ (b : Bool). let x : Option VersionNo = if b then Some n else None in x) (first_apart versions v p name None first e (λ same. absurd cc)))
    of (Some k) e = puts k ∙ ap (λ (b : Bool). if b then Some n else get nat_cmp before k) (first_test versions v p name k first e)

pub favoured_nothing : (versions : List Version) (map : BTreeMap ℕ VersionNo) (name : List ℕ) → map.entries ≡ [] → favoured_in versions map name ≡ None
favoured_nothing versions map name empty = of (first_of versions name)
  where
    of : (o : Option ℕ) → option_and_then (λ k. get nat_cmp map k) o ≡ None
    of None = refl
    of (Some k) = ap (λ (es : List (ℕ × VersionNo)). lookup (is_at (nat_cmp k)) es) empty
