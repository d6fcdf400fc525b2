-- Values that are each found at their places, with one more.
use Rattle.std.proofs.Common.{Ordering, ◌≡◌, ℕ, zero, suc, Bool, true, false, cond, List, [], ◌∷◌, ◌++◌, length, map, Option, Some, None, refl, sym, ap, subst, ◌∙◌, inl, inr, arith}
use Rattle.std.specs.Prelude.{slice_get, slice_index_or, nat_lt, vec_len, IsSomeAnd, MatchOption}
use Rattle.std.specs.List.{AllZip, each_same}
use Rattle.std.proofs.lemmas.Map.Entries.{lookup_clone}
use Rattle.std.specs.Option.{option_map_or}
use Rattle.std.specs.Global.{Vec}
use Rattle.std.specs.Map.{lookup, KeepsOthers, IsKeyTest, AreApart}
use Rattle.std.specs.Str.{bytes_eq}
use Rattle.std.specs.BTreeMap.{BTreeMap, UpdatesBy, is_at}
use Rattle.std.specs.Cmp.{eq_by_cmp_equiv, first_so, second_so, tied_then, tied_itself, nat_cmp_total, unsigned_Decides, unsigned_ties}
use Rattle.std.specs.Cmp.Lexicographic.{slice_cmp, bytes_decides, nat_list_cmp_total, nat_list_eq_equiv}
use Rattle.std.specs.Ordering.{nat_cmp, is_eq, eq_by_cmp, ordering_then}
use Rattle.std.proofs.lemmas.Bool.{cases_Bool, cond-true, cond-false}
use Rattle.std.proofs.lemmas.Bool.Decides.{nat_tests}
use Rattle.std.proofs.lemmas.Map.Text.{is_eq-slice_cmp}
use Rattle.resolvo_text.specs.declared.spec.Span.{Span}
use Rattle.resolvo_text.specs.declared.spec.Span.TheVariants.{Any, One, Range}
use Rattle.resolvo_pool_core.specs.declared.id.VersionSetId.{VersionSetId}
use Rattle.resolvo_pool_core.specs.declared.id.ConditionId.{ConditionId}
use Rattle.resolvo_pool_core.specs.declared.condition.Condition.{Condition}
use Rattle.resolvo_pool_core.specs.declared.condition.Condition.TheVariants.{Binary, Requirement}
use Rattle.resolvo_pool_core.specs.declared.condition.LogicalOperator.{LogicalOperator}
use Rattle.resolvo_pool_core.specs.declared.condition.LogicalOperator.TheVariants.{And, Or}
use Rattle.resolvo_pool_core.specs.Provider.{OperandsBelow}
use Rattle.resolvo_intern.specs.Intern.{AreBelow}
use Rattle.resolvo_terms.proofs.Places.{get_new, get_kept, get_push}
use Rattle.resolvo_terms.specs.declared.terms.Numbers.{Numbers}
use Rattle.resolvo_terms.specs.Terms.{NameId, Extends, AreSeveral}
use Rattle.resolvo_terms.specs.Known.{sound}
use Rattle.resolvo_terms.specs.declared.key_index.KeyIndex.{KeyIndex}
use Rattle.resolvo_terms.specs.Found.{AreKept, AreKeyed, HasMore, Key, key_eq, list_number_in, span_key, set_key, condition_key}

-- ---- any values

pub extends_more : {V : Type 0} (vs : List V) (v : V) → Extends vs (vs ++ v ∷ [])
extends_more vs v k x e = get_kept vs v x k e

module _ {V : Type 0} (vs news : List V) (v : V) (more : news ≡ vs ++ v ∷ []) where
  pub last_there : (i : ℕ) → i ≡ length vs → slice_get news i ≡ Some v
  last_there i is = rw (more, is) (get_new vs v)

  pub extends_to : Extends vs news
  extends_to k x e = rw more (get_kept vs v x k e)

-- ---- by lists of numbers

abbrev list_cmp : Vec ℕ → Vec ℕ → Ordering
list_cmp x y = slice_cmp nat_cmp x.items y.items

abbrev finds : List ℕ → Vec ℕ → Bool
finds key = is_at (λ k. slice_cmp nat_cmp key k.items)

others : (key : List ℕ) (old new : List (Vec ℕ × ℕ)) → KeepsOthers (eq_by_cmp list_cmp) (finds key) old new → (other : Vec ℕ → Bool) → IsKeyTest (eq_by_cmp list_cmp) other → AreApart (finds key) other → lookup other new ≡ lookup other old
unfolding KeepsOthers
others key old new h = h

apart : (bs cs : List ℕ) (k : Vec ℕ) → bytes_eq bs cs ≡ false → finds bs k ≡ true → finds cs k ≡ false
apart bs cs k n y =
    let same : bytes_eq bs k.items ≡ true = sym (is_eq-slice_cmp bs k.items) ∙ y in
    is_eq-slice_cmp cs k.items ∙ (nat_list_eq_equiv.symm cs k.items ∙ sym (nat_list_eq_equiv.congr bs k.items cs same) ∙ n)

-- the number of any list, after a number is put at one
pub list_number_put : (m n : BTreeMap (Vec ℕ) ℕ) (key : List ℕ) (w : Option ℕ) → UpdatesBy list_cmp (λ k. slice_cmp nat_cmp key k.items) m n w
    → (other : List ℕ) → list_number_in n.entries other ≡ cond (bytes_eq key other) w (list_number_in m.entries other)
list_number_put m n key w h other = elim (cases_Bool (bytes_eq key other)) [
  | inl y ↦ subst (λ (l : List ℕ). lookup (finds l) n.entries ≡ w) ((bytes_decides key other).0 y) h.1 ∙ sym (cond-true (bytes_eq key other) w (lookup (finds other) m.entries) y)
  | inr y ↦ others key m.entries n.entries h.3 (finds other) (λ a b. (eq_by_cmp_equiv nat_list_cmp_total).congr other a.items b.items) (λ k. apart key other k y) ∙ sym (cond-false (bytes_eq key other) w (lookup (finds other) m.entries) y)
]

-- a copy of a map answers the same
same_found : (o p : Option ℕ) → MatchOption o (p ≡ None) (λ v. IsSomeAnd p (λ w. w ≡ v)) → p ≡ o
same_found None p h = h
same_found (Some v) None h = absurd h
same_found (Some v) (Some w) h = ap (λ (n : ℕ). Some n) h

pub list_numbers_cloned : (es fs : List (Vec ℕ × ℕ)) → AllZip (λ p q. (AllZip (λ x y. y ≡ x) p.0.items q.0.items × (vec_len q.0 ≡ vec_len p.0)) × (q.1 ≡ p.1)) es fs → (key : List ℕ) → list_number_in fs key ≡ list_number_in es key
list_numbers_cloned es fs h key =
    same_found (list_number_in es key) (list_number_in fs key)
    (lookup_clone (λ (x y : Vec ℕ). AllZip (λ a b. b ≡ a) x.items y.items × (vec_len y ≡ vec_len x)) (λ (v w : ℕ). w ≡ v) (λ k. is_eq (slice_cmp nat_cmp key k.items)) (λ x y c. ap (λ (l : List ℕ). is_eq (slice_cmp nat_cmp key l)) (each_same x.items y.items c.0)) es fs h)

-- keys of four numbers are equal when they compare so
same_number : (x y : ℕ) → is_eq (nat_cmp x y) ≡ true → x ≡ y
same_number x y e = (unsigned_Decides x y).0 (unsigned_ties x y ∙ e)

pub keys_exact : (x y : Key) → key_eq x y ≡ true → x ≡ y
keys_exact x y e =
    let a : Ordering = nat_cmp x.0 y.0 in
    let b : Ordering = nat_cmp x.1 y.1 in
    let c : Ordering = nat_cmp x.2 y.2 in
    let d : Ordering = nat_cmp x.3 y.3 in
    let all = tied_then (ordering_then (ordering_then a b) c) d ∙ e in
    let three = tied_then (ordering_then a b) c ∙ first_so (is_eq (ordering_then (ordering_then a b) c)) (is_eq d) all in
    let two = tied_then a b ∙ first_so (is_eq (ordering_then a b)) (is_eq c) three in
    let first = same_number x.0 y.0 (first_so (is_eq a) (is_eq b) two) in
    let second = same_number x.1 y.1 (second_so (is_eq a) (is_eq b) two) in
    let third = same_number x.2 y.2 (second_so (is_eq (ordering_then a b)) (is_eq c) three) in
    let fourth = same_number x.3 y.3 (second_so (is_eq (ordering_then (ordering_then a b) c)) (is_eq d) all) in
    λ i. (first i, second i, third i, fourth i)

pub keys_own : (x : Key) → key_eq x x ≡ true
keys_own x = rw (tied_itself nat_cmp_total x.0, tied_itself nat_cmp_total x.1, tied_itself nat_cmp_total x.2, tied_itself nat_cmp_total x.3) refl

-- ---- values of one key are one

spans_exact : (a b : Span) → span_key a ≡ span_key b → a ≡ b
spans_exact Any Any e = refl
spans_exact Any (One n) e = let head : 0 ≡ 1 = ap (λ k. k.0) e in absurd (omega (arith, head))
spans_exact Any (Range low high) e = let head : 0 ≡ 2 = ap (λ k. k.0) e in absurd (omega (arith, head))
spans_exact (One m) Any e = let head : 1 ≡ 0 = ap (λ k. k.0) e in absurd (omega (arith, head))
spans_exact (One m) (One n) e = let same : m ≡ n = ap (λ k. k.1) e in ap (λ (k : ℕ). One k) same
spans_exact (One m) (Range low high) e = let head : 1 ≡ 2 = ap (λ k. k.0) e in absurd (omega (arith, head))
spans_exact (Range bottom top) Any e = let head : 2 ≡ 0 = ap (λ k. k.0) e in absurd (omega (arith, head))
spans_exact (Range bottom top) (One n) e = let head : 2 ≡ 1 = ap (λ k. k.0) e in absurd (omega (arith, head))
spans_exact (Range bottom top) (Range low high) e =
    let lows : bottom ≡ low = ap (λ k. k.1) e in
    let highs : top ≡ high = ap (λ k. k.2) e in
    ap (λ (k : ℕ). Range k top) lows ∙ ap (λ (k : ℕ). Range low k) highs

pub sets_exact : (x y : NameId × Numbers) → set_key x ≡ set_key y → x ≡ y
sets_exact x y e =
    let names : x.0.raw ≡ y.0.raw = ap (λ k. k.0) e in
    let spans : span_key x.1.0 ≡ span_key y.1.0 = ap (λ (k : Key). let t : ℕ × ℕ × ℕ = (k.1, k.2, k.3) in t) e in
    ap (λ (n : ℕ). let p : NameId × Numbers = (record { raw = n; tag = record {} }, x.1) in p) names
    ∙ ap (λ (s : Span). let p : NameId × Numbers = (y.0, record { 0 = s }) in p) (spans_exact x.1.0 y.1.0 spans)

joined : (op : LogicalOperator) (a b c d : ConditionId) → a.0 ≡ c.0 → b.0 ≡ d.0 → Binary op a b ≡ Binary op c d
joined op a b c d left right = ap (λ (n : ℕ). Binary op (record { 0 = n }) b) left ∙ ap (λ (n : ℕ). Binary op c (record { 0 = n })) right

pub conditions_exact : (x y : Condition) → condition_key x ≡ condition_key y → x ≡ y
conditions_exact (Requirement v) (Requirement w) e = let same : v.0 ≡ w.0 = ap (λ k. k.1) e in ap (λ (n : ℕ). let q : Condition = Requirement (record { 0 = n }) in q) same
conditions_exact (Requirement v) (Binary And c d) e = let head : 0 ≡ 1 = ap (λ k. k.0) e in absurd (omega (arith, head))
conditions_exact (Requirement v) (Binary Or c d) e = let head : 0 ≡ 2 = ap (λ k. k.0) e in absurd (omega (arith, head))
conditions_exact (Binary And a b) (Requirement w) e = let head : 1 ≡ 0 = ap (λ k. k.0) e in absurd (omega (arith, head))
conditions_exact (Binary Or a b) (Requirement w) e = let head : 2 ≡ 0 = ap (λ k. k.0) e in absurd (omega (arith, head))
conditions_exact (Binary And a b) (Binary And c d) e =
    let left : a.0 ≡ c.0 = ap (λ k. k.1) e in
    let right : b.0 ≡ d.0 = ap (λ k. k.2) e in
    joined And a b c d left right
conditions_exact (Binary Or a b) (Binary Or c d) e =
    let left : a.0 ≡ c.0 = ap (λ k. k.1) e in
    let right : b.0 ≡ d.0 = ap (λ k. k.2) e in
    joined Or a b c d left right
conditions_exact (Binary And a b) (Binary Or c d) e = let head : 1 ≡ 2 = ap (λ k. k.0) e in absurd (omega (arith, head))
conditions_exact (Binary Or a b) (Binary And c d) e = let head : 2 ≡ 1 = ap (λ k. k.0) e in absurd (omega (arith, head))

-- ---- one more of each kind

module _ (ss : List (NameId × Numbers)) (si : KeyIndex) (us : List (List VersionSetId)) (cs : List Condition) (ci : KeyIndex) (h : AreKept ss si us cs ci) where
  pub sets_more : (news : List (NameId × Numbers)) (new : KeyIndex) → AreKeyed (map set_key news) new → AreKept news new us cs ci
  sets_more news new keyed = record { sets = keyed; conditions = h.conditions; below = h.below; several = h.several }

  still_several : (u : List VersionSetId) → ((v : VersionSetId) → u ≡ v ∷ [] → ⊥) → AreSeveral (us ++ u ∷ [])
  still_several u several k v e = elim (get_push us u (v ∷ []) k e) [ inl old ↦ h.several k v old | inr last ↦ several v last.1 ]

  pub unions_more : (u : List VersionSetId) (news : List (List VersionSetId)) → ((v : VersionSetId) → u ≡ v ∷ [] → ⊥) → HasMore us u news → AreKept ss si news cs ci
  unions_more u news several more = record {
    sets = h.sets;
    conditions = h.conditions;
    below = h.below;
    several = elim more [ inl same ↦ subst AreSeveral (sym same) h.several | inr one ↦ subst AreSeveral (sym one) (still_several u several) ];
  }

  -- where no condition was added
  pub conditions_same : (news : List Condition) (new : KeyIndex) → news ≡ cs → AreKeyed (map condition_key news) new → AreKept ss si us news new
  conditions_same news new same keyed = record { sets = h.sets; conditions = keyed; below = subst AreBelow (sym same) h.below; several = h.several }

  pub conditions_more : (c : Condition) (news : List Condition) (new : KeyIndex) → OperandsBelow c (record { 0 = length cs }) → HasMore cs c news → AreKeyed (map condition_key news) new → AreKept ss si us news new
  conditions_more c news new under more keyed = record {
    sets = h.sets;
    conditions = keyed;
    below = elim more [ inl same ↦ subst AreBelow (sym same) h.below | inr one ↦ subst AreBelow (sym one) still_below ];
    several = h.several;
  }
    where
      still_below : AreBelow (cs ++ c ∷ [])
      still_below i x e = elim (get_push cs c x i e) [
        | inl old ↦ h.below i x old
        | inr last ↦ subst (λ (y : Condition). OperandsBelow y (record { 0 = i })) last.1 (subst (λ (n : ℕ). OperandsBelow c (record { 0 = n })) (sym last.0) under)
      ]

-- ---- the condition of an id

sound_own : (c : ConditionId) (q : Condition) → OperandsBelow q c → q ≡ sound c q
sound_own c (Requirement v) h = refl
sound_own c (Binary op a b) h =
    let left : nat_lt a.0 c.0 ≡ true = (let less = h.0 in grind (arith, nat_tests)) in
    let right : nat_lt b.0 c.0 ≡ true = (let less = h.1 in grind (arith, nat_tests)) in
    rw (left, right) refl

pub sound_there : (cs : List Condition) → AreBelow cs → (c : ConditionId) (q : Condition) → slice_get cs c.0 ≡ Some q → q ≡ option_map_or (sound c) (slice_get cs c.0) (Requirement (record { 0 = 0 }))
sound_there cs below c q at = rw at (sound_own c q (below c.0 q at))

pub sound_nowhere : (cs : List Condition) (c : ConditionId) → slice_get cs c.0 ≡ None → Requirement (record { 0 = 0 }) ≡ option_map_or (sound c) (slice_get cs c.0) (Requirement (record { 0 = 0 }))
sound_nowhere cs c none = rw none refl

pub absent_text : (xs : List (List ℕ)) (n : ℕ) → slice_get xs n ≡ None → ◌≡◌ {A = List ℕ} [] (slice_index_or xs n [])
absent_text [] zero e = refl
absent_text [] (suc n) e = refl
absent_text (x ∷ xs) zero e = absurd cc
absent_text (x ∷ xs) (suc n) e = absent_text xs n e
