-- The provider's answers for solvables agree with the lines of the same versions.
use Rattle.std.proofs.Common.{◌≡◌, ◌==◌, inl, inr, ℕ, zero, suc, ◌+◌, Bool, true, false, List, [], ◌∷◌, map, Option, Some, None, refl, sym, ap, subst, ◌∙◌, arith}
use Rattle.std.specs.Prelude.{◌&&◌, ◌||◌, not, Contains, slice_get, bytes_eq}
use Rattle.std.specs.List.{list_any}
use Rattle.std.proofs.lemmas.Bool.{cases_Bool, eqb-true}
use Rattle.std.proofs.lemmas.Bool.Decides.{Decides-eqb, Decides-ltb}
use Rattle.std.proofs.lemmas.Slice.Eq.{bytes_eq-Decides}
use Rattle.std.proofs.lemmas.Option.{get_or_from_slice_get}
use Rattle.resolvo_text.specs.Line.{Version, Spec, Cond, Is, And, Or}
use Rattle.resolvo_text.specs.Matches as lines
use Rattle.resolvo_text.specs.Matches.{Set}
use Rattle.resolvo_pool_core.specs.declared.id.VersionSetId.{VersionSetId}
use Rattle.resolvo_pool_core.specs.declared.id.ConditionId.{ConditionId}
use Rattle.resolvo_intern.specs.declared.pool.Solvable.{Solvable}
use Rattle.resolvo_pool_core.specs.declared.condition.Condition.{Condition}
use Rattle.resolvo_pool_core.specs.declared.condition.Condition.TheVariants.{Binary, Requirement}
use Rattle.resolvo_pool_core.specs.declared.requirement.Requirement as needs
use Rattle.resolvo_pool_core.specs.declared.requirement.Requirement.TheVariants.{Single, Union}
use Rattle.resolvo_pool_core.specs.declared.requirement.ConditionalRequirement.{ConditionalRequirement}
use Rattle.resolvo_intern.specs.Intern.{AreBelow}
use Rattle.resolvo_pool_core.specs.Provider as pool
use Rattle.resolvo_pool_core.specs.RuleKeeping.{IsLawful, is_in, is_match, is_outside, is_met, meets, holds, binds, binds_under}
use Rattle.resolvo_pool_core.proofs.Conditions.{holds_by_cases}
use Rattle.resolvo_catalogue_core.specs.Kept.{places_from}
use Rattle.resolvo_catalogue.specs.Ids.{Ids, SolvableId, solvable_id, solvables_of, IsSolvable, AreVersions, AreSound, IsPackage, IsSpec, AreAlternatives, IsCondition, IsConditionOf, IsNeed}
use Rattle.resolvo_terms.specs.Terms.{NameId, AreEach}
use Rattle.resolvo_catalogue.specs.Known.{solvable_at, name_of, set_at, condition_at}
use Rattle.resolvo_catalogue.specs.Laws.{operands_below, candidates_named}
use Rattle.resolvo_catalogue.specs.Provider.{Provider, candidates_of, listing_if_any, matches, packages_of}
use Rattle.resolvo_catalogue.specs.KeptSets.{Represents, DistinguishesIds}
use Rattle.resolvo_terms.proofs.Places.{each_right, no_element, first_element, later_element, element_cases}
use Rattle.resolvo_catalogue.proofs.MarkLemmas.{one_some}
use Rattle.resolvo_catalogue.proofs.PassLemmas.{any_from, any_to, same_bool}

-- ---- names

pub same_name : (ids : Ids) → AreSound ids → (a b : NameId) (m n : List ℕ) → IsPackage ids a m → IsPackage ids b n → (a.raw == b.raw) ≡ bytes_eq m n
same_name ids once a b m n is_m is_n = same_bool (a.raw == b.raw) (bytes_eq m n)
    (λ e. (bytes_eq-Decides m n).1 (one_some (sym is_m ∙ ap (λ (k : ℕ). slice_get ids.names k) (eqb-true a.raw b.raw e) ∙ is_n)))
    (λ e. (Decides-eqb a.raw b.raw).1 (once.names a.raw b.raw n (is_m ∙ ap (λ (x : List ℕ). Some x) ((bytes_eq-Decides m n).0 e)) is_n))

-- ---- the solvables of a package

pub place_member : {X : Type 0} (test : X → Bool) (at : ℕ) (xs : List X) (i : ℕ) (x : X) → slice_get xs i ≡ Some x → test x ≡ true → Contains (map solvable_id (places_from test at xs)) (solvable_id (at + i))
place_member test at [] i x e t = absurd cc
place_member test at (y ∷ xs) zero x e t =
    let same : y ≡ x = cc in
    rw (ap test same ∙ t) (subst (λ (k : ℕ). Contains (map solvable_id (at ∷ places_from test (suc at) xs)) (solvable_id k)) (let e : at ≡ at + 0 = omega arith in e) (first_element (solvable_id at) _))
place_member test at (y ∷ xs) (suc i) x e t =
    let later = subst (λ (k : ℕ). Contains (map solvable_id (places_from test (suc at) xs)) (solvable_id k)) (let e : suc at + i ≡ at + suc i = omega arith in e) (place_member test (suc at) xs i x e t) in
    elim (cases_Bool (test y)) [
      | inl here ↦ rw here (later_element (solvable_id at) _ _ later)
      | inr other ↦ rw other later
    ]

pub member_place : {X : Type 0} (test : X → Bool) (at : ℕ) (xs : List X) (s : SolvableId) → Contains (map solvable_id (places_from test at xs)) s → (i : ℕ) × (x : X) × (s.raw ≡ at + i) × (slice_get xs i ≡ Some x) × (test x ≡ true)
member_place test at [] s h = absurd (no_element s h)
member_place test at (y ∷ xs) s h = elim (cases_Bool (test y)) [
  | inl here ↦ elim (element_cases (solvable_id at) (map solvable_id (places_from test (suc at) xs)) s (rw here at h)) [
    | inl same ↦ (0, y, sym (ap (λ (t : SolvableId). t.raw) same) ∙ (let e : at ≡ at + 0 = omega arith in e), refl, here)
    | inr more ↦ let m = member_place test (suc at) xs s more in (suc m.0, m.1, m.2 ∙ (let e : suc at + m.0 ≡ at + suc m.0 = omega arith in e), m.3, m.4)
  ]
  | inr other ↦ let m = member_place test (suc at) xs s (rw other at h) in (suc m.0, m.1, m.2 ∙ (let e : suc at + m.0 ≡ at + suc m.0 = omega arith in e), m.3, m.4)
]

pub listed_is : (p : Provider) (ss : List SolvableId) → pool.listed (listing_if_any p ss) ≡ ss
listed_is p [] = refl
listed_is p (s ∷ ss) = refl

module _ (p : Provider) (versions : List Version) (are : AreVersions p.ids versions) (once : AreSound p.ids) (same : SolvableId → SolvableId → Bool) (apart : DistinguishesIds same) where
  -- a version's solvable has its number, and its package
  pub at_version : (s : SolvableId) (v : Version) → slice_get versions s.raw ≡ Some v → (x : Solvable ℕ) × (slice_get p.ids.solvables s.raw ≡ Some x) × (solvable_at p.ids s ≡ x) × (x.version ≡ v.number) × IsPackage p.ids x.name v.name × (name_of p.ids s ≡ x.name)
  at_version s v e =
      let found = each_right (IsSolvable p.ids) p.ids.solvables versions are s.raw v e in
      let at : solvable_at p.ids s ≡ found.0 = get_or_from_slice_get p.ids.solvables s.raw found.0 _ found.1 in
      (found.0, found.1, at, found.2.0, found.2.1, ap (λ (x : Solvable ℕ). x.name) at)

  pub is_package : (s : SolvableId) (v : Version) → slice_get versions s.raw ≡ Some v → IsPackage p.ids (name_of p.ids s) v.name
  is_package s v e = let at = at_version s v e in rw at.5 at.4

  pub in_from : (xs : List SolvableId) (s : SolvableId) → is_in same (packages_of p) xs s ≡ true → Contains xs s
  in_from xs s h = let f = any_from (λ x. same x s) xs h in subst (λ (t : SolvableId). Contains xs t) ((apart f.0 s).0 f.2) f.1

  pub in_to : (xs : List SolvableId) (s : SolvableId) → Contains xs s → is_in same (packages_of p) xs s ≡ true
  in_to xs s h = any_to (λ x. same x s) xs s h ((apart s s).1 refl)

  -- a version's solvable is a candidate of its package, and of no other
  pub candidate : (n : NameId) (s : SolvableId) (v : Version) → slice_get versions s.raw ≡ Some v → is_in same (packages_of p) (pool.listed (candidates_of p n)) s ≡ ((name_of p.ids s).raw == n.raw)
  candidate n s v e =
      let at = at_version s v e in
      let test : Solvable ℕ → Bool = λ x. x.name.raw == n.raw in
      rw (listed_is p (solvables_of p.ids n.raw)) (same_bool _ _
      (λ h. let m = member_place test 0 p.ids.solvables s (in_from _ s h) in
      let x : m.1 ≡ at.0 = one_some (sym m.3 ∙ ap (λ (k : ℕ). slice_get p.ids.solvables k) (let e : m.0 ≡ s.raw = omega (arith, m.2) in e) ∙ at.1) in
      rw at.5 (sym (ap test x) ∙ m.4))
      (λ h. in_to _ s (subst (λ (k : ℕ). Contains (solvables_of p.ids n.raw) (solvable_id k)) (let e : 0 + s.raw ≡ s.raw = omega arith in e) (place_member test 0 p.ids.solvables s.raw at.0 at.1 (rw at.5 at h)))))

  -- ---- matching

  both : (b c : Bool) → (b && (b && c)) ≡ (b && c)
  both true c = refl
  both false c = refl

  -- the version set admits the solvable of a version exactly if the SPEC matches it
  pub admits : (w : VersionSetId) (s : Spec) (x : SolvableId) (v : Version) → IsSpec p.ids w s → slice_get versions x.raw ≡ Some v → matches p w x ≡ lines.matches s v
  admits w s x v spec e =
      let at = at_version x v e in
      let set : set_at p.ids w ≡ (spec.0, record { 0 = s.span }) = get_or_from_slice_get p.ids.version_sets w.0 _ _ spec.1 in
      rw (set, at.2, at.5, at.3, same_name p.ids once at.0.name spec.0 v.name s.name at.4 spec.2) refl

  of_package : (w : VersionSetId) (s : Spec) (x : SolvableId) (v : Version) → IsSpec p.ids w s → slice_get versions x.raw ≡ Some v → is_in same (packages_of p) (pool.listed (candidates_of p (set_at p.ids w).0)) x ≡ bytes_eq v.name s.name
  of_package w s x v spec e =
      let at = at_version x v e in
      let set : set_at p.ids w ≡ (spec.0, record { 0 = s.span }) = get_or_from_slice_get p.ids.version_sets w.0 _ _ spec.1 in
      candidate (set_at p.ids w).0 x v e ∙ rw (set, at.5) (same_name p.ids once at.0.name spec.0 v.name s.name at.4 spec.2)

  pub match_same : (w : VersionSetId) (s : Spec) (x : SolvableId) (v : Version) → IsSpec p.ids w s → slice_get versions x.raw ≡ Some v → is_match same (packages_of p) w x ≡ lines.matches s v
  match_same w s x v spec e = rw (of_package w s x v spec e, admits w s x v spec e) (both (bytes_eq v.name s.name) _)

  pub outside_same : (w : VersionSetId) (s : Spec) (x : SolvableId) (v : Version) → IsSpec p.ids w s → slice_get versions x.raw ≡ Some v → is_outside same (packages_of p) w x ≡ (bytes_eq v.name s.name && not (lines.matches s v))
  outside_same w s x v spec e = rw (of_package w s x v spec e, admits w s x v spec e) refl

  -- ---- conditions and needs, in a set

  module _ (chosen : List SolvableId) (set : Set) (represents : Represents versions chosen set) (below : AreBelow p.ids.conditions) where
    pub met_same : (w : VersionSetId) (s : Spec) → IsSpec p.ids w s → is_met same (packages_of p) chosen w ≡ lines.is_met s set
    met_same w s spec = same_bool _ _
        (λ h. let f = any_from (is_match same (packages_of p) w) chosen h in
        let v = represents.each f.0 f.1 in
        any_to (lines.matches s) set v.0 v.2 (sym (match_same w s f.0 v.0 spec v.1) ∙ f.2))
        (λ h. let f = any_from (lines.matches s) set h in
        let x = represents.all f.0 f.1 in
        any_to (is_match same (packages_of p) w) chosen x.0 x.1 (match_same w s x.0 f.0 spec x.2 ∙ f.2))

    lawful : IsLawful (packages_of p)
    lawful = record { below = operands_below p.ids; named = candidates_named p }

    condition_is : (c : ConditionId) (q : Condition) → slice_get p.ids.conditions c.0 ≡ Some q → condition_at p.ids c ≡ q
    condition_is c (Requirement v) e = rw e refl
    condition_is c (Binary op a b) e =
        let under = below c.0 (Binary op a b) e in
        rw (e, (Decides-ltb a.0 c.0).1 under.0, (Decides-ltb b.0 c.0).1 under.1) refl

    pub holds_same : (c : ConditionId) (cond : Cond) → IsCondition p.ids c cond → holds same (packages_of p) chosen c ≡ lines.holds cond set
    holds_same c (Is s) h = holds_by_cases same (packages_of p) lawful chosen c ∙ rw (condition_is c _ h.1) (met_same h.0 s h.2)
    holds_same c (And a b) h = holds_by_cases same (packages_of p) lawful chosen c ∙ rw (condition_is c _ h.2) (ap (λ (x : Bool). x && holds same (packages_of p) chosen h.1) (holds_same h.0 a h.3) ∙ ap (λ (x : Bool). lines.holds a set && x) (holds_same h.1 b h.4))
    holds_same c (Or a b) h = holds_by_cases same (packages_of p) lawful chosen c ∙ rw (condition_is c _ h.2) (ap (λ (x : Bool). x || holds same (packages_of p) chosen h.1) (holds_same h.0 a h.3) ∙ ap (λ (x : Bool). lines.holds a set || x) (holds_same h.1 b h.4))

    binds_same : (c : Option ConditionId) (cond : Option Cond) → IsConditionOf p.ids c cond → binds_under same (packages_of p) chosen c ≡ lines.condition_holds cond set
    binds_same None None h = refl
    binds_same None (Some cond) h = absurd h
    binds_same (Some c) None h = absurd h
    binds_same (Some c) (Some cond) h = holds_same c cond h

    pub need_binds : (need : ConditionalRequirement) (written : List Spec × Option Cond) → IsNeed p.ids need written → binds same (packages_of p) chosen need ≡ lines.condition_holds written.1 set
    need_binds need written h = binds_same need.condition written.1 h.1

    -- some alternative is matched
    any_alternative : (vs : List VersionSetId) (ss : List Spec) (x : SolvableId) (v : Version) → AreEach (IsSpec p.ids) vs ss → slice_get versions x.raw ≡ Some v → list_any (λ w. is_match same (packages_of p) w x) vs ≡ list_any (λ s. lines.matches s v) ss
    any_alternative [] [] x v h e = refl
    any_alternative [] (s ∷ ss) x v h e = absurd h
    any_alternative (w ∷ vs) [] x v h e = absurd h
    any_alternative (w ∷ vs) (s ∷ ss) x v h e = ap (λ (b : Bool). b || list_any (λ u. is_match same (packages_of p) u x) vs) (match_same w s x v h.0 e) ∙ ap (λ (b : Bool). lines.matches s v || b) (any_alternative vs ss x v h.1 e)

    pub meets_same : (r : needs.Requirement) (ss : List Spec) (x : SolvableId) (v : Version) → AreAlternatives p.ids r ss → slice_get versions x.raw ≡ Some v → meets same (packages_of p) r x ≡ list_any (λ s. lines.matches s v) ss
    meets_same (Single w) ss x v h e = any_alternative (w ∷ []) ss x v h e
    meets_same (Union u) ss x v h e =
        ap (λ (vs : List VersionSetId). list_any (λ w. is_match same (packages_of p) w x) vs) (get_or_from_slice_get p.ids.unions u.0 h.0 [] h.1) ∙ any_alternative h.0 ss x v h.2 e
