-- Members of sets, literals of solvables, and truth under a valuation.
use Rattle.std.proofs.Common.{◌≡◌, ℕ, zero, suc, ◌⊎◌, inl, inr, Bool, true, false, not, ◌&&◌, ◌||◌, List, [], ◌∷◌, ◌++◌, filter, Option, Some, None, refl, sym, ◌∙◌, ap, subst, eqb-true, eq-eqb}
use Rattle.std.specs.Prelude.{cond, Contains}
use Rattle.std.specs.List.{list_any}
use Rattle.std.specs.Bool.{beq}
use Rattle.std.proofs.lemmas.Bool.{or_cases, or_left, or_right, and_parts, and_from, both_ways, cases_Bool}
use Rattle.std.proofs.lemmas.List.Elements.{All-contains}
use Rattle.resolvo_pool_core.specs.declared.id.StringId.{StringId}
use Rattle.resolvo_pool_core.specs.declared.id.VersionSetId.{VersionSetId}
use Rattle.resolvo_pool_core.specs.declared.id.ConditionId.{ConditionId}
use Rattle.resolvo_pool_core.specs.declared.condition.Condition.{Condition}
use Rattle.resolvo_pool_core.specs.declared.condition.Condition.TheVariants.{Binary, Requirement as Only}
use Rattle.resolvo_pool_core.specs.declared.condition.LogicalOperator.TheVariants.{And, Or}
use Rattle.resolvo_pool_core.specs.declared.requirement.ConditionalRequirement.{ConditionalRequirement}
use Rattle.resolvo_pool_core.specs.declared.requirement.Requirement.{Requirement}
use Rattle.resolvo_pool_core.specs.declared.requirement.Requirement.TheVariants.{Single, Union}
use Rattle.resolvo_pool_core.specs.OnePass.{Literal, negate, is_true_at, clause_true}
use Rattle.resolvo_pool_core.specs.Provider.{Listing, listed, AreOf}
use Rattle.resolvo_pool_core.specs.RuleKeeping.{Packages, IsLawful, is_many, truth_of, is_in, is_match, is_outside, is_met, listing_for, locks_out, is_forbidden, is_unknown, holds_within, binds_under, binds}
use Rattle.resolvo_store_core.specs.Cases.{truth_within}
use Rattle.resolvo_store_core.proofs.CaseLaws.{exact_cases}
use Rattle.resolvo_sat.specs.RuleClauses.{IsExact, Atom, plus, minus, solvables, has_condition, same_requirement, has_plain_need, cases_under, cases_for, case_holds, outside_literals, set_literals, case_literals, candidate_literals, ForbidReason, KeepsOut}
use Rattle.resolvo_sat.proofs.Lists.{contains_first, contains_later, contains_none, contains_cases, contains_one, contains_only, contains_left, contains_right, contains_parts, contains_map, map_contains, contains_filter, filter_contains, any_contained, contained_any, none_contained}

-- a solvable that is kept out is forbidden, or its dependencies are unknown
pub kept_out : {N S : Type 0} (same : S → S → Bool) → IsExact same → (p : Packages N S) (w : ForbidReason S) (s : S) → KeepsOut same p w s → (is_forbidden same p s || is_unknown (p.dependencies_of s)) ≡ true
kept_out same exact p (ForbidReason.lock l) s (is, other, listed) = or_left _ _ (or_left _ _ (ap (λ o. locks_out same o s) is ∙ ap not other))
kept_out {S = S} same exact p (ForbidReason.word why) s (inl h) = or_left _ _ (or_right _ _ (contained_any (λ (e : S × StringId). same e.0 s) (s, why) (listing_for same p s).excluded h (exact.own s)))
kept_out same exact p (ForbidReason.word why) s (inr is) = or_right _ _ (ap is_unknown is)

-- literals under a valuation
pub plus_true : (b : Bool) → b ≡ true → beq b true ≡ true
plus_true true h = refl
plus_true false h = h

pub true_plus : (b : Bool) → beq b true ≡ true → b ≡ true
true_plus true h = refl
true_plus false h = h

pub minus_true : (b : Bool) → b ≡ false → beq b false ≡ true
minus_true true h = sym h
minus_true false h = refl

pub true_minus : (b : Bool) → beq b false ≡ true → b ≡ false
true_minus true h = sym h
true_minus false h = refl

pub twice : (b : Bool) → not (not b) ≡ b
twice true = refl
twice false = refl

module _ {A : Type 0} where
  -- a clause is true by one of its literals
  pub makes : (v : A → Bool) (clause : List (Literal A)) (l : Literal A) → Contains clause l → is_true_at v l ≡ true → clause_true v clause ≡ true
  makes v clause l a t = contained_any (is_true_at v) l clause a t

  pub made_by : (v : A → Bool) (clause : List (Literal A)) → clause_true v clause ≡ true → (l : Literal A) × Contains clause l × (is_true_at v l ≡ true)
  made_by v clause h = any_contained (is_true_at v) clause h

  pub made_left : (v : A → Bool) (xs ys : List (Literal A)) → clause_true v xs ≡ true → clause_true v (xs ++ ys) ≡ true
  made_left v xs ys h = let (l, a, t) = made_by v xs h in makes v (xs ++ ys) l (contains_left l xs ys a) t

  pub made_right : (v : A → Bool) (xs ys : List (Literal A)) → clause_true v ys ≡ true → clause_true v (xs ++ ys) ≡ true
  made_right v xs ys h = let (l, a, t) = made_by v ys h in makes v (xs ++ ys) l (contains_right l xs ys a) t

  pub negate-negate : (l : Literal A) → negate (negate l) ≡ l
  negate-negate l = ap (λ (b : Bool). let r : Literal A = record { atom = l.atom; positive = b } in r) (twice l.positive)

  -- a literal and its negation are not both true
  pub not_both : (v : A → Bool) (l : Literal A) → is_true_at v l ≡ true → is_true_at v (negate l) ≡ true → ⊥
  not_both v l h k = go (v l.atom) l.positive h k
    where
      go : (a b : Bool) → beq a b ≡ true → beq a (not b) ≡ true → ⊥
      go true true h k = both_ways false refl k
      go true false h k = both_ways false refl h
      go false true h k = both_ways false refl h
      go false false h k = both_ways false refl k

pub same_requirement_true : (r q : Requirement) → same_requirement r q ≡ true → r ≡ q
same_requirement_true (Single v) (Single w) h = let e : v.0 ≡ w.0 = eqb-true v.0 w.0 h in λ i. Single (record { 0 = e i })
same_requirement_true (Union v) (Union w) h = let e : v.0 ≡ w.0 = eqb-true v.0 w.0 h in λ i. Union (record { 0 = e i })
same_requirement_true (Single v) (Union w) h = absurd (both_ways false refl h)
same_requirement_true (Union v) (Single w) h = absurd (both_ways false refl h)

pub same_requirement-self : (r : Requirement) → same_requirement r r ≡ true
same_requirement-self (Single v) = eq-eqb v.0 v.0 refl
same_requirement-self (Union v) = eq-eqb v.0 v.0 refl

truth_alike : (met : VersionSetId → Bool) (f g : ConditionId → Bool) (q : Condition) → ((a : ConditionId) → f a ≡ g a) → truth_of met f q ≡ truth_of met g q
truth_alike met f g (Only v) h = refl
truth_alike met f g (Binary And a b) h = ap (λ x. x && f b) (h a) ∙ ap (λ x. g a && x) (h b)
truth_alike met f g (Binary Or a b) h = ap (λ x. x || f b) (h a) ∙ ap (λ x. g a || x) (h b)

module _ {N S : Type 0} (same : S → S → Bool) (exact : IsExact same) (p : Packages N S) where
  pub in_contained : (xs : List S) (s : S) → is_in same p xs s ≡ true → Contains xs s
  in_contained xs s h = let (x, a, e) = any_contained (λ x. same x s) xs h in subst (Contains xs) (exact.one x s e) a

  pub contained_in : (xs : List S) (s : S) → Contains xs s → is_in same p xs s ≡ true
  contained_in xs s a = contained_any (λ x. same x s) s xs a (exact.own s)

  pub any_in : (f : S → Bool) (xs : List S) → list_any f xs ≡ true → (x : S) × (is_in same p xs x ≡ true) × (f x ≡ true)
  any_in f xs h = let (x, a, t) = any_contained f xs h in (x, contained_in xs x a, t)

  pub in_any : (f : S → Bool) (x : S) (xs : List S) → is_in same p xs x ≡ true → f x ≡ true → list_any f xs ≡ true
  in_any f x xs c h = contained_any f x xs (in_contained xs x c) h

  pub none_in : (f : S → Bool) (x : S) (xs : List S) → is_in same p xs x ≡ true → list_any f xs ≡ false → f x ≡ false
  none_in f x xs c h = none_contained f x xs (in_contained xs x c) h

  -- a package's candidates have its name
  pub candidate_named : IsLawful p → (n : N) (s : S) → is_in same p (listed (p.candidates_of n)) s ≡ true → p.package_of s ≡ n
  candidate_named lawful n s h = go (p.candidates_of n) (lawful.named n) (in_contained (listed (p.candidates_of n)) s h)
    where
      go : (o : Option (Listing S)) → AreOf p.package_of n o → Contains (listed o) s → p.package_of s ≡ n
      go None named a = absurd (contains_none s a)
      go (Some l) named a = All-contains (λ x. p.package_of x ≡ n) l.candidates s named.candidates a

  -- the literals of candidates that pass a test
  pub solvable_listed : (f : S → Bool) (xs : List S) (s : S) → is_in same p xs s ≡ true → f s ≡ true → Contains (solvables {N = N} {S = S} (filter f xs)) (plus (Atom.solvable s))
  solvable_listed f xs s h t = contains_map (λ x. plus (Atom.solvable x)) s (filter f xs) (contains_filter f s xs (in_contained xs s h) t)

  pub listed_solvable : (f : S → Bool) (xs : List S) (l : Literal (Atom N S)) → Contains (solvables (filter f xs)) l → (s : S) × (l ≡ plus (Atom.solvable s)) × (is_in same p xs s ≡ true) × (f s ≡ true)
  listed_solvable f xs l h =
      let (s, a, e) = map_contains (λ x. plus (Atom.solvable x)) l (filter f xs) h in
      let (b, t) = filter_contains f s xs a in
      (s, e, contained_in xs s b, t)

  pub candidate_in : (vs : List VersionSetId) (s : S) → list_any (λ v. is_match same p v s) vs ≡ true → Contains (candidate_literals same p vs) (plus (Atom.solvable s))
  candidate_in [] s h = absurd (both_ways false refl h)
  candidate_in (v ∷ vs) s h = elim (or_cases (is_match same p v s) (list_any (λ w. is_match same p w s) vs) h) [
    | inl e ↦
        let parts = and_parts (is_in same p (listed (p.candidates_of (p.set_package v))) s) (p.matches v s) e in
        contains_left _ _ _ (solvable_listed (p.matches v) (listed (p.candidates_of (p.set_package v))) s parts.0 parts.1)
    | inr e ↦ contains_right _ (solvables (filter (p.matches v) (listed (p.candidates_of (p.set_package v))))) _ (candidate_in vs s e)
  ]

  pub candidate_from : (vs : List VersionSetId) (l : Literal (Atom N S)) → Contains (candidate_literals same p vs) l → (s : S) × (l ≡ plus (Atom.solvable s)) × (list_any (λ v. is_match same p v s) vs ≡ true)
  candidate_from [] l a = absurd (contains_none l a)
  candidate_from (v ∷ vs) l a =
      elim (contains_parts l (solvables (filter (p.matches v) (listed (p.candidates_of (p.set_package v))))) (candidate_literals same p vs) a) [
        | inl b ↦ let (s, q, c, t) = listed_solvable (p.matches v) (listed (p.candidates_of (p.set_package v))) l b in (s, q, or_left _ _ (and_from _ _ c t))
        | inr b ↦ let (s, q, c) = candidate_from vs l b in (s, q, or_right _ _ c)
      ]

  -- the literals of a version set, of a package that isn't marked `many` and of one that is
  set_unmarked : (v : VersionSetId) → is_many p (p.set_package v) ≡ false → set_literals same p v ≡ outside_literals same p v
  set_unmarked v e = ap (λ (b : Bool). cond b (minus (Atom.matches v) ∷ []) (outside_literals same p v)) e

  set_marked : (v : VersionSetId) → is_many p (p.set_package v) ≡ true → set_literals same p v ≡ minus (Atom.matches v) ∷ []
  set_marked v e = ap (λ (b : Bool). cond b (minus (Atom.matches v) ∷ []) (outside_literals same p v)) e

  -- a literal of a version set of a case is one of the case
  set_in_case : (vs : List VersionSetId) (v : VersionSetId) (l : Literal (Atom N S)) → Contains vs v → Contains (set_literals same p v) l → Contains (case_literals same p vs) l
  set_in_case [] v l a b = absurd (contains_none v a)
  set_in_case (w ∷ vs) v l a b = elim (contains_cases v w vs a) [
    | inl e ↦ contains_left l (set_literals same p w) (case_literals same p vs) (subst (λ (x : VersionSetId). Contains (set_literals same p x) l) e b)
    | inr c ↦ contains_right l (set_literals same p w) (case_literals same p vs) (set_in_case vs v l c b)
  ]

  -- the literals of a case: no candidate of a version set's package, or one outside it; or, of a
  -- package that is marked `many`, no match
  pub any_in_case : (vs : List VersionSetId) (v : VersionSetId) → Contains vs v → is_many p (p.set_package v) ≡ false → Contains (case_literals same p vs) (minus (Atom.any_of (p.set_package v)))
  any_in_case vs v a e = set_in_case vs v (minus (Atom.any_of (p.set_package v))) a
      (subst (λ (ls : List (Literal (Atom N S))). Contains ls (minus (Atom.any_of (p.set_package v)))) (sym (set_unmarked v e)) (contains_first _ _ _ refl))

  pub outside_in_case : (vs : List VersionSetId) (v : VersionSetId) (s : S) → Contains vs v → is_many p (p.set_package v) ≡ false → is_outside same p v s ≡ true → Contains (case_literals same p vs) (plus (Atom.solvable s))
  outside_in_case vs v s a e o =
      let parts = and_parts (is_in same p (listed (p.candidates_of (p.set_package v))) s) (not (p.matches v s)) o in
      set_in_case vs v (plus (Atom.solvable s)) a
      (subst (λ (ls : List (Literal (Atom N S))). Contains ls (plus (Atom.solvable s))) (sym (set_unmarked v e))
      (contains_later _ _ _ (solvable_listed (λ x. not (p.matches v x)) (listed (p.candidates_of (p.set_package v))) s parts.0 parts.1)))

  pub matches_in_case : (vs : List VersionSetId) (v : VersionSetId) → Contains vs v → is_many p (p.set_package v) ≡ true → Contains (case_literals same p vs) (minus (Atom.matches v))
  matches_in_case vs v a e = set_in_case vs v (minus (Atom.matches v)) a
      (subst (λ (ls : List (Literal (Atom N S))). Contains ls (minus (Atom.matches v))) (sym (set_marked v e)) (contains_only (minus (Atom.matches v))))

  -- the literal is one of the version set, whose package is marked `many` or isn't
  abbrev pub IsSetLiteral : VersionSetId → Literal (Atom N S) → Type 0
  IsSetLiteral v l = ((is_many p (p.set_package v) ≡ true) × (l ≡ minus (Atom.matches v)))
      ⊎ ((is_many p (p.set_package v) ≡ false) × ((l ≡ minus (Atom.any_of (p.set_package v))) ⊎ ((s : S) × (l ≡ plus (Atom.solvable s)) × (is_outside same p v s ≡ true))))

  in_outside : (v : VersionSetId) (l : Literal (Atom N S)) → Contains (outside_literals same p v) l → (l ≡ minus (Atom.any_of (p.set_package v))) ⊎ ((s : S) × (l ≡ plus (Atom.solvable s)) × (is_outside same p v s ≡ true))
  in_outside v l a = elim (contains_cases l _ _ a) [
    | inl e ↦ inl e
    | inr b ↦ let (s, q, i, t) = listed_solvable (λ x. not (p.matches v x)) (listed (p.candidates_of (p.set_package v))) l b in inr (s, q, and_from _ _ i t)
  ]

  in_set : (v : VersionSetId) (l : Literal (Atom N S)) → Contains (set_literals same p v) l → IsSetLiteral v l
  in_set v l a = elim (cases_Bool (is_many p (p.set_package v))) [
    | inl e ↦ inl (e, contains_one l (minus (Atom.matches v)) (subst (λ (ls : List (Literal (Atom N S))). Contains ls l) (set_marked v e) a))
    | inr e ↦ inr (e, in_outside v l (subst (λ (ls : List (Literal (Atom N S))). Contains ls l) (set_unmarked v e) a))
  ]

  pub in_case : (vs : List VersionSetId) (l : Literal (Atom N S)) → Contains (case_literals same p vs) l → (v : VersionSetId) × Contains vs v × IsSetLiteral v l
  in_case [] l a = absurd (contains_none l a)
  in_case (w ∷ vs) l a = elim (contains_parts l (set_literals same p w) (case_literals same p vs) a) [
    | inl b ↦ (w, contains_first w w vs refl, in_set w l b)
    | inr b ↦ let (v, i, d) = in_case vs l b in (v, contains_later v w vs i, d)
  ]

  within_same : (n : ℕ) (chosen : List S) (c : ConditionId) → holds_within same p n chosen c ≡ truth_within (is_met same p chosen) p.condition_of n c
  within_same zero chosen c = refl
  within_same (suc n) chosen c = truth_alike (is_met same p chosen) (holds_within same p n chosen) (truth_within (is_met same p chosen) p.condition_of n) (p.condition_of c) (within_same n chosen)

  -- a requirement binds exactly if some case of its condition holds
  pub binds_cases : (chosen : List S) (need : ConditionalRequirement) → binds same p chosen need ≡ list_any (case_holds same p chosen) (cases_for same p need)
  binds_cases chosen need = go need.condition
    where
      go : (o : Option ConditionId) → binds_under same p chosen o ≡ list_any (case_holds same p chosen) (cases_under p.condition_of o)
      go None = refl
      go (Some c) = within_same (suc c.0) chosen c ∙ sym (exact_cases p.condition_of (is_met same p chosen) c)

  pub binds_case : (chosen : List S) (need : ConditionalRequirement) → binds same p chosen need ≡ true → (vs : List VersionSetId) × Contains (cases_for same p need) vs × (case_holds same p chosen vs ≡ true)
  binds_case chosen need h = any_contained (case_holds same p chosen) (cases_for same p need) (sym (binds_cases chosen need) ∙ h)

  pub case_binds : (chosen : List S) (need : ConditionalRequirement) (vs : List VersionSetId) → Contains (cases_for same p need) vs → case_holds same p chosen vs ≡ true → binds same p chosen need ≡ true
  case_binds chosen need vs a h = binds_cases chosen need ∙ contained_any (case_holds same p chosen) vs (cases_for same p need) a h

  -- a requirement without condition binds
  plain_binds : (chosen : List S) (o : Option ConditionId) → not (has_condition o) ≡ true → binds_under same p chosen o ≡ true
  plain_binds chosen None h = refl
  plain_binds chosen (Some c) h = absurd (both_ways false refl h)

  -- who asks for a requirement has it without condition
  pub asked : (chosen : List S) (list : List ConditionalRequirement) (r : Requirement) → has_plain_need list r ≡ true → (need : ConditionalRequirement) × Contains list need × (binds same p chosen need ≡ true) × (r ≡ need.requirement)
  asked chosen list r h =
      let (need, a, t) = any_contained (λ (n : ConditionalRequirement). not (has_condition n.condition) && same_requirement r n.requirement) list h in
      let parts = and_parts (not (has_condition need.condition)) (same_requirement r need.requirement) t in
      (need, a, plain_binds chosen need.condition parts.0, same_requirement_true r need.requirement parts.1)
