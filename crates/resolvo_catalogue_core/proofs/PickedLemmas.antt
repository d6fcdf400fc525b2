-- The versions picked by their numbers.
use Rattle.std.proofs.Common.{◌≡◌, ◌<◌, ◌≤◌, ◌+◌, ◌==◌, ◌||◌, ◌&&◌, ◌⊎◌, ◌↔◌, inl, inr, ℕ, zero, suc, Bool, true, false, not, cond, List, [], ◌∷◌, length, get_or, Option, Some, None, refl, sym, ap, subst, ◌∙◌, arith}
use Rattle.std.specs.Prelude.{slice_get, nat_lt, Contains}
use Rattle.std.specs.Option.{option_map}
use Rattle.std.specs.List.{list_any, filter}
use Rattle.std.specs.List.Sorted.{IsPartitionedBy, IsPartitionPoint}
use Rattle.std.specs.BTreeMap.{BTreeMap, get, is_at, IsOrdered}
use Rattle.std.specs.BTreeMap.Range.{is_from_start, is_past_end, range_contains, entries_between}
use Rattle.std.specs.BTreeSet.{BTreeSet, contains}
use Rattle.std.specs.declared.ops.Bound.{Bound}
use Rattle.std.specs.declared.ops.Bound.TheVariants.{Included, Excluded, Unbounded}
use Rattle.std.specs.Cmp.{nat_cmp_total}
use Rattle.std.specs.Ordering.{nat_cmp}
use Rattle.std.proofs.lemmas.Bool.{cases_Bool}
use Rattle.std.proofs.lemmas.Bool.Decides.{Decides-eqb, nat_tests}
use Rattle.std.proofs.lemmas.Option.{slice_get_within, slice_get-get_or}
use Rattle.std.proofs.lemmas.List.{get_or_default}
use Rattle.std.proofs.lemmas.Map.Entries.{btree_map_get_place, place_from_lookup}
use Rattle.std.proofs.lemmas.Map.Keys.{IsStrictlyIncreasing-from_sorted}
use Rattle.resolvo_text.specs.declared.spec.Span.TheVariants.{One, Range}
use Rattle.resolvo_text.specs.Line.{Version, Spec}
use Rattle.resolvo_catalogue_core.specs.declared.rule.VersionNo.{VersionNo}
use Rattle.resolvo_catalogue_core.specs.declared.package.Package.{Package}
use Rattle.resolvo_catalogue_core.specs.Numbered.{beside, numbers_of, versions_of, AreRising}
use Rattle.resolvo_catalogue_core.specs.Questions.{number_of, AreAll}
use Rattle.resolvo_catalogue_core.specs.Picked.{IsAmong, IsPlaced, AddsEach, HasEach, is_picked, IsPicked}
use Rattle.resolvo_catalogue_core.specs.Table.{IsPackage}
use Rattle.resolvo_catalogue_core.proofs.NumberedLemmas.{present}

-- ---- places

-- one more place
pub place_more : (vs : List VersionNo) (first i : ℕ) (d : VersionNo) (s t u : BTreeSet ℕ) → first ≤ i → i < length vs → AddsEach s (IsPlaced vs first i) t
    → ((n : ℕ) → contains nat_cmp u n ≡ cond (is_at (nat_cmp (get_or vs i d).0) n) true (contains nat_cmp t n)) → AddsEach s (IsPlaced vs first (i + 1)) u
place_more vs first i d s t u le lt so_far set n = (to, from)
  where
    here : slice_get vs i ≡ Some (get_or vs i d)
    here = slice_get-get_or vs i d lt

    to : contains nat_cmp u n ≡ true → (contains nat_cmp s n ≡ true) ⊎ IsPlaced vs first (i + 1) n
    to h = elim (cases_Bool (is_at (nat_cmp (get_or vs i d).0) n)) [
      | inl y ↦ (let same : (get_or vs i d).0 ≡ n = grind (arith, nat_tests) in inr (i, get_or vs i d, le, omega arith, here, same))
      | inr y ↦
          let old : contains nat_cmp t n ≡ true = subst (λ (b : Bool). cond b true (contains nat_cmp t n) ≡ true) y (sym (set n) ∙ h) in
          elim ((so_far n).0 old) [ inl a ↦ inl a | inr p ↦ inr (p.0, p.1, p.2, omega (arith, p.3), p.4, p.5) ]
    ]

    kept : contains nat_cmp t n ≡ true → contains nat_cmp u n ≡ true
    kept h = set n ∙ rw h (either (is_at (nat_cmp (get_or vs i d).0) n))
      where
        either : (b : Bool) → cond b true true ≡ true
        either true = refl
        either false = refl

    from : (contains nat_cmp s n ≡ true) ⊎ IsPlaced vs first (i + 1) n → contains nat_cmp u n ≡ true
    from h = elim h [
      | inl a ↦ kept ((so_far n).1 (inl a))
      | inr p ↦ elim (cases_Bool (nat_lt p.0 i)) [
        | inl y ↦ kept ((so_far n).1 (inr (p.0, p.1, p.2, grind (arith, nat_tests), p.4, p.5)))
        | inr y ↦
            let last : p.0 ≡ i = (let b : p.0 < i + 1 = p.3 in grind (arith, nat_tests)) in
            let one : p.1 ≡ get_or vs i d = (let e : Some p.1 ≡ Some (get_or vs i d) = sym p.4 ∙ (ap (λ (j : ℕ). slice_get vs j) last ∙ here) in cc) in
            let same : (get_or vs i d).0 ≡ n = ap (λ (v : VersionNo). v.0) (sym one) ∙ p.5 in
            let at : is_at (nat_cmp (get_or vs i d).0) n ≡ true = grind (arith, nat_tests) in
            set n ∙ ap (λ (b : Bool). cond b true (contains nat_cmp t n)) at
      ]
    ]

pub no_place : (vs : List VersionNo) (first : ℕ) (s : BTreeSet ℕ) → AddsEach s (IsPlaced vs first first) s
no_place vs first s n = (λ h. inl h, λ h. elim h [ inl a ↦ a | inr p ↦ absurd (omega (arith, p.2, p.3)) ])

-- ---- numbers that rise

-- where a version is beside its number
beside_at : (ns : List ℕ) (vs : List VersionNo) (k : ℕ) (v : VersionNo) → beside ns vs k ≡ Some v → (i : ℕ) × (i < length ns) × (get_or ns i 0 ≡ k) × (slice_get vs i ≡ Some v)
beside_at [] vs k v e = absurd cc
beside_at (n ∷ ns) [] k v e = absurd cc
beside_at (n ∷ ns) (w ∷ vs) k v e = elim (cases_Bool (n == k)) [
  | inl y ↦ (zero, omega arith, (Decides-eqb n k).0 y, subst (λ (b : Bool). cond b (Some w) (beside ns vs k) ≡ Some v) y e)
  | inr y ↦ (let r = beside_at ns vs k v (subst (λ (b : Bool). cond b (Some w) (beside ns vs k) ≡ Some v) y e) in (suc r.0, omega (arith, r.1), r.2, r.3))
]

pub from_map : (o : Option VersionNo) (n : ℕ) → option_map number_of o ≡ Some n → (v : VersionNo) × (o ≡ Some v) × (v.0 ≡ n)
from_map None n e = absurd cc
from_map (Some v) n e = let same : v.0 ≡ n = cc in (v, refl, same)

module _ (ns : List ℕ) (vs : List VersionNo) (paired : length ns ≡ length vs) (rising : AreRising ns) (start end : Bound ℕ) (first last : ℕ)
    (from_first : (i : ℕ) → i < length ns → is_from_start nat_cmp start (get_or ns i 0) ≡ not (nat_lt i first))
    (to_last : (i : ℕ) → i < length ns → is_past_end nat_cmp end (get_or ns i 0) ≡ not (nat_lt i last)) where
  within_is : (i : ℕ) → i < length ns → range_contains nat_cmp start end (get_or ns i 0) ≡ (not (nat_lt i first) && not (not (nat_lt i last)))
  within_is i lt = rw (from_first i lt, to_last i lt) refl

  to_among : (n : ℕ) → IsPlaced vs first last n → IsAmong ns vs (range_contains nat_cmp start end) n
  to_among n p =
      let lt : p.0 < length ns = omega (arith, paired, slice_get_within vs p.0 p.1 p.4) in
      let k = get_or ns p.0 0 in
      let a : nat_lt p.0 first ≡ false = (let b = p.2 in grind (arith, nat_tests)) in
      let z : nat_lt p.0 last ≡ true = (let b = p.3 in grind (arith, nat_tests)) in
      let at : beside ns vs k ≡ slice_get vs p.0 = present ns vs k p.0 paired lt refl (λ j h same. omega (arith, rising j p.0 h lt, same)) in
      (k, within_is p.0 lt ∙ rw (a, z) refl, ap (λ (o : Option VersionNo). option_map number_of o) (at ∙ p.4) ∙ ap (λ (m : ℕ). Some m) p.5)

  to_places : (n : ℕ) → IsAmong ns vs (range_contains nat_cmp start end) n → IsPlaced vs first last n
  to_places n p =
      let v = from_map (beside ns vs p.0) n p.2 in
      let i = beside_at ns vs p.0 v.0 v.1 in
      let inside : (not (nat_lt i.0 first) && not (not (nat_lt i.0 last))) ≡ true = sym (within_is i.0 i.1) ∙ ap (range_contains nat_cmp start end) i.2 ∙ p.1 in
      let a : first ≤ i.0 = grind (arith, nat_tests) in
      let z : i.0 < last = grind (arith, nat_tests) in
      (i.0, v.0, a, z, i.3, v.2)

  pub places_among : (s t : BTreeSet ℕ) → AddsEach s (IsPlaced vs first last) t → AddsEach s (IsAmong ns vs (range_contains nat_cmp start end)) t
  places_among s t adds n = (λ h. elim ((adds n).0 h) [ inl a ↦ inl a | inr p ↦ inr (to_among n p) ], λ h. elim h [ inl a ↦ (adds n).1 (inl a) | inr p ↦ (adds n).1 (inr (to_places n p)) ])

  pub none_among : (s : BTreeSet ℕ) → last ≤ first → AddsEach s (IsAmong ns vs (range_contains nat_cmp start end)) s
  none_among s le n = (λ h. inl h, λ h. elim h [ inl a ↦ a | inr p ↦ (let q = to_places n p in absurd (omega (arith, le, q.2, q.3))) ])

-- ---- the ends of a search among numbers that rise

pub from_rises : (start : Bound ℕ) (a b : ℕ) → a ≤ b → is_from_start nat_cmp start a ≡ true → is_from_start nat_cmp start b ≡ true
from_rises (Included x) a b le h = grind (arith, nat_tests)
from_rises (Excluded x) a b le h = grind (arith, nat_tests)
from_rises Unbounded a b le h = refl

pub past_rises : (end : Bound ℕ) (a b : ℕ) → a ≤ b → is_past_end nat_cmp end a ≡ true → is_past_end nat_cmp end b ≡ true
past_rises (Included x) a b le h = grind (arith, nat_tests)
past_rises (Excluded x) a b le h = grind (arith, nat_tests)
past_rises Unbounded a b le h = h

module _ (ns : List ℕ) (rising : AreRising ns) where
  still : (i j : ℕ) → i ≤ j → j < length ns → get_or ns i 0 ≤ get_or ns j 0
  still i j le lt = grind (arith, rising i j, λ (same : i ≡ j). ap (λ n. get_or ns n 0) same)

  pub from_parted : (start : Bound ℕ) → IsPartitionedBy (λ n. not (is_from_start nat_cmp start n)) ns
  from_parted start i j d le lt h = elim (cases_Bool (is_from_start nat_cmp start (get_or ns i d))) [
    | inl y ↦
        let here : is_from_start nat_cmp start (get_or ns i 0) ≡ true = subst (λ (n : ℕ). is_from_start nat_cmp start n ≡ true) (get_or_default ns i d 0 (omega (arith, le, lt))) y in
        let there : is_from_start nat_cmp start (get_or ns j d) ≡ true = subst (λ (n : ℕ). is_from_start nat_cmp start n ≡ true) (sym (get_or_default ns j d 0 lt)) (from_rises start (get_or ns i 0) (get_or ns j 0) (still i j le lt) here) in
        absurd (both (is_from_start nat_cmp start (get_or ns j d)) there h)
    | inr y ↦ rw y refl
  ]
    where
      both : (b : Bool) → b ≡ true → not b ≡ true → ⊥
      both true e h = cc
      both false e h = cc

  pub past_parted : (end : Bound ℕ) → IsPartitionedBy (λ n. not (is_past_end nat_cmp end n)) ns
  past_parted end i j d le lt h = elim (cases_Bool (is_past_end nat_cmp end (get_or ns i d))) [
    | inl y ↦
        let here : is_past_end nat_cmp end (get_or ns i 0) ≡ true = subst (λ (n : ℕ). is_past_end nat_cmp end n ≡ true) (get_or_default ns i d 0 (omega (arith, le, lt))) y in
        let there : is_past_end nat_cmp end (get_or ns j d) ≡ true = subst (λ (n : ℕ). is_past_end nat_cmp end n ≡ true) (sym (get_or_default ns j d 0 lt)) (past_rises end (get_or ns i 0) (get_or ns j 0) (still i j le lt) here) in
        absurd (both (is_past_end nat_cmp end (get_or ns j d)) there h)
    | inr y ↦ rw y refl
  ]
    where
      both : (b : Bool) → b ≡ true → not b ≡ true → ⊥
      both true e h = cc
      both false e h = cc

-- the result of a search among numbers, at each place
pub by_point : (p : ℕ → Bool) (ns : List ℕ) (r : ℕ) → IsPartitionPoint (λ n. not (p n) ≡ true) (λ n. not (p n) ≡ false) ns r → (i : ℕ) → i < length ns → p (get_or ns i 0) ≡ not (nat_lt i r)
by_point p ns r point i lt = elim (cases_Bool (nat_lt i r)) [
  | inl y ↦ rw y (no (p (get_or ns i 0)) (point.0 i 0 (omega arith) (let low : i < r = grind (arith, nat_tests) in low)))
  | inr y ↦ rw y (yes (p (get_or ns i 0)) (point.1 i 0 (let high : r ≤ i = grind (arith, nat_tests) in high) lt))
]
  where
    no : (b : Bool) → not b ≡ true → b ≡ false
    no true h = cc
    no false h = refl

    yes : (b : Bool) → not b ≡ false → b ≡ true
    yes true h = refl
    yes false h = cc

-- ---- a map

any_kept : (t : ℕ → Bool) (n : ℕ) (es : List (ℕ × VersionNo)) → list_any (λ e. e.1.0 == n) (filter (λ e. t e.0) es) ≡ true → (i : ℕ) × (e : ℕ × VersionNo) × (slice_get es i ≡ Some e) × (t e.0 ≡ true) × (e.1.0 ≡ n)
any_kept t n [] h = absurd cc
any_kept t n (e ∷ es) h = elim (cases_Bool (t e.0)) [
  | inl y ↦ (let found : ((e.1.0 == n) || list_any (λ x. x.1.0 == n) (filter (λ x. t x.0) es)) ≡ true = subst (λ (b : Bool). list_any (λ x. x.1.0 == n) (cond b (e ∷ filter (λ x. t x.0) es) (filter (λ x. t x.0) es)) ≡ true) y h in
      elim (cases_Bool (e.1.0 == n)) [
        | inl z ↦ (zero, e, refl, y, (Decides-eqb e.1.0 n).0 z)
        | inr z ↦ later (any_kept t n es (subst (λ (b : Bool). (b || list_any (λ x. x.1.0 == n) (filter (λ x. t x.0) es)) ≡ true) z found))
      ])
  | inr y ↦ later (any_kept t n es (subst (λ (b : Bool). list_any (λ x. x.1.0 == n) (cond b (e ∷ filter (λ x. t x.0) es) (filter (λ x. t x.0) es)) ≡ true) y h))
]
  where
    later : (i : ℕ) × (x : ℕ × VersionNo) × (slice_get es i ≡ Some x) × (t x.0 ≡ true) × (x.1.0 ≡ n) → (i : ℕ) × (x : ℕ × VersionNo) × (slice_get (e ∷ es) i ≡ Some x) × (t x.0 ≡ true) × (x.1.0 ≡ n)
    later r = (suc r.0, r.1, r.2, r.3, r.4)

kept_any : (t : ℕ → Bool) (n : ℕ) (es : List (ℕ × VersionNo)) (i : ℕ) (x : ℕ × VersionNo) → slice_get es i ≡ Some x → t x.0 ≡ true → x.1.0 ≡ n → list_any (λ e. e.1.0 == n) (filter (λ e. t e.0) es) ≡ true
kept_any t n [] i x at is same = absurd cc
kept_any t n (e ∷ es) zero x at is same =
    let one : e ≡ x = cc in
    let y : t e.0 ≡ true = ap (λ (z : ℕ × VersionNo). t z.0) one ∙ is in
    let z : (e.1.0 == n) ≡ true = (Decides-eqb e.1.0 n).1 (ap (λ (z : ℕ × VersionNo). z.1.0) one ∙ same) in
    rw y (rw z refl)
kept_any t n (e ∷ es) (suc i) x at is same = either (t e.0) (kept_any t n es i x at is same)
  where
    any_first : (b c : Bool) → c ≡ true → (b || c) ≡ true
    any_first true c e = refl
    any_first false c e = e

    either : (b : Bool) → list_any (λ x. x.1.0 == n) (filter (λ x. t x.0) es) ≡ true → list_any (λ x. x.1.0 == n) (cond b (e ∷ filter (λ x. t x.0) es) (filter (λ x. t x.0) es)) ≡ true
    either true below = any_first (e.1.0 == n) _ below
    either false below = below

or_true : (a b : Bool) → (a || b) ≡ true → (a ≡ true) ⊎ (b ≡ true)
or_true true b e = inl refl
or_true false b e = inr e

true_or : (a b : Bool) → (a ≡ true) ⊎ (b ≡ true) → (a || b) ≡ true
true_or true b h = refl
true_or false b h = elim h [ inl a ↦ absurd cc | inr e ↦ e ]

pub mapped_among : (ns : List ℕ) (vs : List VersionNo) (m : BTreeMap ℕ VersionNo) (start end : Bound ℕ) (s t : BTreeSet ℕ) → IsOrdered nat_cmp m → ((k : ℕ) → get nat_cmp m k ≡ beside ns vs k)
    → ((n : ℕ) → contains nat_cmp t n ≡ (contains nat_cmp s n || list_any (λ e. e.1.0 == n) (entries_between nat_cmp start end m.entries))) → AddsEach s (IsAmong ns vs (range_contains nat_cmp start end)) t
mapped_among ns vs m start end s t ordered finds adds n = (to, from)
  where
    inside : ℕ → Bool
    inside k = range_contains nat_cmp start end k

    to : contains nat_cmp t n ≡ true → (contains nat_cmp s n ≡ true) ⊎ IsAmong ns vs (range_contains nat_cmp start end) n
    to h = elim (or_true _ _ (sym (adds n) ∙ h)) [
      | inl a ↦ inl a
      | inr p ↦
          let r = any_kept (range_contains nat_cmp start end) n m.entries p in
          let at : get nat_cmp m r.1.0 ≡ Some r.1.1 = btree_map_get_place nat_cmp_total m r.0 r.1.0 r.1.1 ordered r.2 in
          inr (r.1.0, r.3, ap (λ (o : Option VersionNo). option_map number_of o) (sym (finds r.1.0) ∙ at) ∙ ap (λ (j : ℕ). Some j) r.4)
    ]

    listed : IsAmong ns vs (range_contains nat_cmp start end) n → list_any (λ e. e.1.0 == n) (entries_between nat_cmp start end m.entries) ≡ true
    listed p =
        let v = from_map (beside ns vs p.0) n p.2 in
        let q = place_from_lookup (is_at (nat_cmp p.0)) m.entries v.0 (finds p.0 ∙ v.1) in
        let same : q.1 ≡ p.0 = (let e : is_at (nat_cmp p.0) q.1 ≡ true = q.3 in grind (arith, nat_tests)) in
        kept_any (range_contains nat_cmp start end) n m.entries q.0 (q.1, v.0) q.2 (ap (range_contains nat_cmp start end) same ∙ p.1) v.2

    from : (contains nat_cmp s n ≡ true) ⊎ IsAmong ns vs (range_contains nat_cmp start end) n → contains nat_cmp t n ≡ true
    from h = adds n ∙ true_or _ _ (elim h [ inl a ↦ inl a | inr p ↦ inr (listed p) ])

-- ---- tests that are equal

module _ (ns : List ℕ) (vs : List VersionNo) (t : ℕ → Bool) where
  pub by_two : (u w : ℕ → Bool) (s middle after : BTreeSet ℕ) → ((k : ℕ) → (u k || w k) ≡ t k) → AddsEach s (IsAmong ns vs u) middle → AddsEach middle (IsAmong ns vs w) after → AddsEach s (IsAmong ns vs t) after
  by_two u w s middle after same first second n = (
    λ h. elim ((second n).0 h) [
      | inl a ↦ elim ((first n).0 a) [ inl b ↦ inl b | inr p ↦ inr (p.0, sym (same p.0) ∙ true_or (u p.0) (w p.0) (inl p.1), p.2) ]
      | inr p ↦ inr (p.0, sym (same p.0) ∙ true_or (u p.0) (w p.0) (inr p.1), p.2)
    ],
    λ h. elim h [
      | inl a ↦ (second n).1 (inl ((first n).1 (inl a)))
      | inr p ↦ elim (or_true (u p.0) (w p.0) (same p.0 ∙ p.1)) [ inl x ↦ (second n).1 (inl ((first n).1 (inr (p.0, x, p.2)))) | inr x ↦ (second n).1 (inr (p.0, x, p.2)) ]
    ],
  )

-- ---- a set of them

has_from : (n : ℕ) (xs : List ℕ) → list_any (is_at (nat_cmp n)) xs ≡ true → Contains xs n
has_from n [] h = absurd cc
has_from n (x ∷ xs) h = elim (or_true (is_at (nat_cmp n) x) (list_any (is_at (nat_cmp n)) xs) h) [
  | inl e ↦ (let same : x ≡ n = grind (arith, nat_tests) in (zero, omega arith, same))
  | inr r ↦ (let c = has_from n xs r in (suc c.0, omega (arith, c.1), c.2))
]

from_has : (n : ℕ) (xs : List ℕ) → Contains xs n → list_any (is_at (nat_cmp n)) xs ≡ true
from_has n xs c = at xs c.0 c.1 c.2
  where
    at : (ys : List ℕ) (k : ℕ) → k < length ys → get_or ys k n ≡ n → list_any (is_at (nat_cmp n)) ys ≡ true
    at [] k l e = absurd (omega arith)
    at (y ∷ ys) zero l e =
        let here : is_at (nat_cmp n) y ≡ true = (let same : y ≡ n = e in grind (arith, nat_tests)) in
        true_or (is_at (nat_cmp n) y) (list_any (is_at (nat_cmp n)) ys) (inl here)
    at (y ∷ ys) (suc k) l e = true_or (is_at (nat_cmp n) y) (list_any (is_at (nat_cmp n)) ys) (inr (at ys k (omega arith) e))

module _ (versions : List Version) (s : Spec) (outside : Bool) (p : Package) (is : IsPackage versions s.name (Some p)) (set : BTreeSet ℕ)
    (has : HasEach (IsAmong (numbers_of p) (versions_of p) (is_picked s.span outside)) set) where
  to_version : (n : ℕ) → Contains set.keys n → IsPicked versions s outside n
  to_version n c = let k = (has.0 n).0 (from_has n set.keys c) in (record { name = s.name; number = k.0 }, (is.numbers k.0 n).0 k.2, refl, k.1)

  from_version : (n : ℕ) → IsPicked versions s outside n → Contains set.keys n
  from_version n v =
      let at : slice_get versions n ≡ Some (record { name = s.name; number = v.0.number }) = v.1 ∙ ap (λ (name : List ℕ). let w : Version = record { name = name; number = v.0.number } in Some w) v.2 in
      has_from n set.keys ((has.0 n).1 (v.0.number, v.3, (is.numbers v.0.number n).1 at))

  pub all_picked : AreAll set.keys (IsPicked versions s outside)
  all_picked = record { rising = IsStrictlyIncreasing-from_sorted set.keys has.1; all = λ n. (to_version n, from_version n) }

pub all_added : (P : ℕ → Type 0) (before after : BTreeSet ℕ) → before.keys ≡ [] → AddsEach before P after → (n : ℕ) → (contains nat_cmp after n ≡ true) ↔ P n
all_added P before after none adds n = (λ h. elim ((adds n).0 h) [ inl a ↦ absurd (nowhere (subst (λ (ks : List ℕ). list_any (is_at (nat_cmp n)) ks ≡ true) none a)) | inr p ↦ p ], λ p. (adds n).1 (inr p))
  where
    nowhere : false ≡ true → ⊥
    nowhere e = cc

pub none_picked : (versions : List Version) (s : Spec) (outside : Bool) → IsPackage versions s.name None → AreAll [] (IsPicked versions s outside)
none_picked versions s outside is = record { rising = is.all.rising; all = λ n. (λ c. absurd (nowhere n c), λ v. (is.all.all n).1 (v.0, v.1, v.2)) }
  where
    nowhere : (n : ℕ) → Contains [] n → ⊥
    nowhere n c = omega (arith, c.1)

-- ---- the numbers outside a span

pub outside_one : (m k : ℕ) → (range_contains nat_cmp Unbounded (Excluded m) k || range_contains nat_cmp (Excluded m) Unbounded k) ≡ is_picked (One m) true k
outside_one m k = grind (arith, nat_tests)

pub outside_range : (low high k : ℕ) → (range_contains nat_cmp Unbounded (Excluded low) k || range_contains nat_cmp (Included high) Unbounded k) ≡ is_picked (Range low high) true k
outside_range low high k = grind (arith, nat_tests)
