-- Versions beside their numbers: look-ups by a number, and one more version.
use Rattle.std.proofs.Common.{◌≡◌, ◌≢◌, ◌<◌, ◌≤◌, ◌+◌, ◌==◌, if◌then◌else◌, inl, inr, ℕ, zero, suc, Bool, true, false, List, [], ◌∷◌, ◌++◌, take, length, get_or, Option, Some, None, option_map, Result, Ok, Err, refl, sym, ap, subst, ◌∙◌, arith}
use Rattle.std.specs.Prelude.{slice_get, nat_lt, nat_eq, MatchResult}
use Rattle.std.specs.BTreeMap.{BTreeMap, get}
use Rattle.std.specs.Map.{update}
use Rattle.std.specs.List.Sorted.{IsBinarySearchResult}
use Rattle.std.specs.Ordering.{nat_cmp}
use Rattle.std.proofs.lemmas.Bool.{cases_Bool}
use Rattle.std.proofs.lemmas.Bool.Decides.{Decides-eqb, nat_tests}
use Rattle.std.proofs.lemmas.List.{length-append, length-take, map_push, take_more, get_or-take, get_or_default, get_or_push, get_or_append_left}
use Rattle.std.proofs.lemmas.List.Sorted.{searched}
use Rattle.resolvo_catalogue_core.specs.declared.rule.VersionNo.{VersionNo}
use Rattle.resolvo_catalogue_core.specs.declared.package.Package.TheVariants.{Absent, One}
use Rattle.resolvo_catalogue_core.specs.declared.version_list.VersionList.{VersionList}
use Rattle.resolvo_catalogue_core.specs.Numbered.{beside, AreRising, IsAbove, IsSought, AreNumbered}
use Rattle.resolvo_catalogue_core.specs.Questions.{number_of}
use Rattle.resolvo_catalogue_core.specs.Table.{AddsBeside, AddsNumber}

-- a number that is nowhere
pub absent : (ns : List ℕ) (vs : List VersionNo) (k : ℕ) → ((j : ℕ) → j < length ns → get_or ns j 0 ≢ k) → beside ns vs k ≡ None
absent [] vs k not = refl
absent (n ∷ ns) [] k not = refl
absent (n ∷ ns) (v ∷ vs) k not =
    let apart : (n == k) ≡ false = (let here = not 0 (omega arith) in grind (arith, nat_tests)) in
    rw apart (absent ns vs k (λ j h. not (suc j) (omega arith)))

-- a number that is above all
pub above_absent : (ns : List ℕ) (vs : List VersionNo) (k : ℕ) → IsAbove k ns → beside ns vs k ≡ None
above_absent ns vs k above = absent ns vs k (λ j h same. omega (arith, above j h, same))

-- the first number that is this one
pub present : (ns : List ℕ) (vs : List VersionNo) (k i : ℕ) → length ns ≡ length vs → i < length ns → get_or ns i 0 ≡ k → ((j : ℕ) → j < i → get_or ns j 0 ≢ k) → beside ns vs k ≡ slice_get vs i
present [] vs k i paired h is before = absurd (omega arith)
present (n ∷ ns) [] k i paired h is before = absurd (omega (arith, paired))
present (n ∷ ns) (v ∷ vs) k zero paired h is before =
    let same : (n == k) ≡ true = (Decides-eqb n k).1 is in
    rw same refl
present (n ∷ ns) (v ∷ vs) k (suc i) paired h is before =
    let apart : (n == k) ≡ false = (let here = before 0 (omega arith) in grind (arith, nat_tests)) in
    rw apart (present ns vs k i (omega (arith, paired)) (omega arith) is (λ j lt. before (suc j) (omega arith)))

-- the result of a search among rising numbers
abbrev pub IsSoughtBeside : List ℕ → List VersionNo → ℕ → Result ℕ ℕ → Type 0
IsSoughtBeside ns vs k (Ok i) = beside ns vs k ≡ slice_get vs i
IsSoughtBeside ns vs k (Err i) = beside ns vs k ≡ None

pub sought : (ns : List ℕ) (vs : List VersionNo) (k : ℕ) (r : Result ℕ ℕ) → length ns ≡ length vs → AreRising ns → IsBinarySearchResult (λ n. nat_cmp n k) ns r → IsSoughtBeside ns vs k r
sought ns vs k r paired rising ended = go r (searched ns k r ended never_falls)
  where
    never_falls : (i j : ℕ) → i ≤ j → j < length ns → get_or ns i 0 ≤ get_or ns j 0
    never_falls i j le lt = grind (arith, rising i j, λ (same : i ≡ j). ap (λ n. get_or ns n 0) same)

    go : (q : Result ℕ ℕ) → MatchResult q (λ i. (i < length ns) × (get_or ns i 0 ≡ k)) (λ i. (i ≤ length ns) × ((j : ℕ) → j < i → get_or ns j 0 < k) × ((j : ℕ) → i ≤ j → j < length ns → k < get_or ns j 0)) → IsSoughtBeside ns vs k q
    go (Ok i) h = present ns vs k i paired h.0 h.1 (λ x lt at. omega (arith, rising x i lt h.0, at, h.1))
    go (Err i) h = absent ns vs k (λ x lt at. elim (cases_Bool (nat_lt x i)) [
      | inl less ↦ (let low : x < i = grind (arith, nat_tests) in omega (arith, h.1 x low, at))
      | inr more ↦ (let high : i ≤ x = grind (arith, nat_tests) in omega (arith, h.2 x high lt, at))
    ])

-- ---- one more

pub beside_push : (ns : List ℕ) (vs : List VersionNo) (n : ℕ) (v : VersionNo) → length ns ≡ length vs → beside ns vs n ≡ None → (k : ℕ) → beside (ns ++ n ∷ []) (vs ++ v ∷ []) k ≡ (if n == k then Some v else beside ns vs k)
beside_push [] [] n v paired new k = refl
beside_push [] (w ∷ vs) n v paired new k = absurd (omega (arith, paired))
beside_push (m ∷ ns) [] n v paired new k = absurd (omega (arith, paired))
beside_push (m ∷ ns) (w ∷ vs) n v paired new k = elim (cases_Bool (m == n)) [
  | inl same ↦ absurd (some_is_none w (subst (λ b. (if b then Some w else beside ns vs n) ≡ None) same new))
  | inr apart ↦
      let rest : beside ns vs n ≡ None = subst (λ b. (if b then Some w else beside ns vs n) ≡ None) apart new in
      elim (cases_Bool (m == k)) [
        | inl here ↦
            let other : (n == k) ≡ false = grind (arith, nat_tests) in
            rw (here, other) refl
        | inr not ↦ rw not (beside_push ns vs n v (omega (arith, paired)) rest k)
      ]
]
  where
    some_is_none : (x : VersionNo) → ◌≡◌ {A = Option VersionNo} (Some x) None → ⊥
    some_is_none x e = cc

pub rising_push : (ns : List ℕ) (n : ℕ) → AreRising ns → IsAbove n ns → AreRising (ns ++ n ∷ [])
rising_push ns n rising above i j less within =
    let long : length (ns ++ n ∷ []) ≡ length ns + 1 = length-append ns (n ∷ []) in
    let first : get_or (ns ++ n ∷ []) i 0 ≡ get_or ns i 0 = get_or_append_left ns (n ∷ []) 0 i (omega arith) in
    elim (cases_Bool (nat_lt j (length ns))) [
      | inl inside ↦
          let low : j < length ns = grind (arith, nat_tests) in
          let second : get_or (ns ++ n ∷ []) j 0 ≡ get_or ns j 0 = get_or_append_left ns (n ∷ []) 0 j low in
          omega (arith, first, second, rising i j less low)
      | inr last ↦
          let here : j ≡ length ns = grind (arith, nat_tests) in
          let second : get_or (ns ++ n ∷ []) j 0 ≡ n = get_or_push ns n 0 j (sym here) in
          omega (arith, first, second, above i (omega arith))
    ]

pub numbered_push : (ns : List ℕ) (vs : List VersionNo) (n : ℕ) (v : VersionNo) → length ns ≡ length vs → beside ns vs n ≡ None → (k : ℕ) → option_map number_of (beside (ns ++ n ∷ []) (vs ++ v ∷ []) k) ≡ (if n == k then Some v.0 else option_map number_of (beside ns vs k))
numbered_push ns vs n v paired new k = ap (λ (o : Option VersionNo). option_map number_of o) (beside_push ns vs n v paired new k) ∙ choose (n == k)
  where
    choose : (b : Bool) → option_map number_of (if b then Some v else beside ns vs k) ≡ (if b then Some v.0 else option_map number_of (beside ns vs k))
    choose true = refl
    choose false = refl

-- one more version of a number above the others
pub pushed : (p q : VersionList) (n : ℕ) (v : VersionNo) → AreNumbered p → p.by_number ≡ None → IsAbove n p.numbers.items → q.numbers.items ≡ p.numbers.items ++ n ∷ [] → q.versions.items ≡ p.versions.items ++ v ∷ [] → q.by_number ≡ None → AddsBeside p.numbers.items p.versions.items n v q
pushed p q n v kept unmapped above numbers versions unmapped_still =
    let ns = p.numbers.items in
    let vs = p.versions.items in
    let rising : AreRising ns = subst (λ m. IsSought m ns vs) unmapped kept.sought in
    let risen : AreRising q.numbers.items = subst AreRising (sym numbers) (rising_push ns n rising above) in
    let counts : length (ns ++ n ∷ []) ≡ length (vs ++ v ∷ []) = omega (arith, kept.paired, length-append ns (n ∷ []), length-append vs (v ∷ [])) in
    record {
      kept = record {
        paired = ap length numbers ∙ counts ∙ sym (ap length versions);
        sought = subst (λ m. IsSought m q.numbers.items q.versions.items) (sym unmapped_still) risen;
      };
      numbers = λ k. rw (numbers, versions) (numbered_push ns vs n v kept.paired (above_absent ns vs n above) k);
      all = rw versions (map_push number_of vs v);
    }

-- ---- a map of the versions

-- beside the first numbers and one more
pub beside_next : (ns : List ℕ) (vs : List VersionNo) (i d : ℕ) (w : VersionNo) → length ns ≡ length vs → AreRising ns → i < length ns → (k : ℕ) → beside (take (i + 1) ns) (take (i + 1) vs) k ≡ (if get_or ns i d == k then Some (get_or vs i w) else beside (take i ns) (take i vs) k)
beside_next ns vs i d w paired rising within k =
    let within_versions : i < length vs = omega (arith, paired) in
    let short : length (take i ns) ≡ length (take i vs) = omega (arith, length-take i ns, length-take i vs, paired) in
    let above : IsAbove (get_or ns i d) (take i ns) = λ j h.
    let low : j < i = omega (arith, length-take i ns, h) in
    let there : get_or (take i ns) j 0 ≡ get_or ns j 0 = get_or-take i ns j 0 low in
    let here : get_or ns i d ≡ get_or ns i 0 = get_or_default ns i d 0 within in
    omega (arith, there, here, rising j i low within) in
    rw (take_more ns i d within, take_more vs i w within_versions) (beside_push (take i ns) (take i vs) (get_or ns i d) (get_or vs i w) short (above_absent (take i ns) (take i vs) (get_or ns i d) above) k)

pub mapped_next : (ns : List ℕ) (vs : List VersionNo) (i d : ℕ) (w : VersionNo) (m o : BTreeMap ℕ VersionNo) → length ns ≡ length vs → AreRising ns → i < length ns → ((k : ℕ) → get nat_cmp m k ≡ beside (take i ns) (take i vs) k)
    → ((k : ℕ) → get nat_cmp o k ≡ update nat_eq (get nat_cmp m) (get_or ns i d) (Some (get_or vs i w)) k) → (k : ℕ) → get nat_cmp o k ≡ beside (take (i + 1) ns) (take (i + 1) vs) k
mapped_next ns vs i d w m o paired rising within so_far updated k = updated k ∙ rw (so_far k) (sym (beside_next ns vs i d w paired rising within k))

-- one more version of a new number, which the map finds
pub mapped : (p q : VersionList) (n : ℕ) (v : VersionNo) (m : BTreeMap ℕ VersionNo) → AreNumbered p → beside p.numbers.items p.versions.items n ≡ None → ((k : ℕ) → get nat_cmp m k ≡ update nat_eq (beside p.numbers.items p.versions.items) n (Some v) k)
    → q.numbers.items ≡ p.numbers.items ++ n ∷ [] → q.versions.items ≡ p.versions.items ++ v ∷ [] → q.by_number ≡ Some m → AddsBeside p.numbers.items p.versions.items n v q
mapped p q n v m kept new updated numbers versions is =
    let ns = p.numbers.items in
    let vs = p.versions.items in
    let counts : length (ns ++ n ∷ []) ≡ length (vs ++ v ∷ []) = omega (arith, kept.paired, length-append ns (n ∷ []), length-append vs (v ∷ [])) in
    record {
      kept = record {
        paired = ap length numbers ∙ counts ∙ sym (ap length versions);
        sought = rw (is, numbers, versions) (λ k. updated k ∙ sym (beside_push ns vs n v kept.paired new k));
      };
      numbers = λ k. rw (numbers, versions) (numbered_push ns vs n v kept.paired new k);
      all = rw versions (map_push number_of vs v);
    }

-- ---- one version alone

-- the first version of a package
pub first_added : (n : ℕ) (v : VersionNo) → AddsNumber (Some Absent) n v (One n v)
first_added n v = record { kept = tt; numbers = λ k. choose (n == k); all = refl }
  where
    choose : (b : Bool) → option_map number_of (if b then Some v else None) ≡ (if b then Some v.0 else None)
    choose true = refl
    choose false = refl
