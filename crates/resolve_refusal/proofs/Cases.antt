-- The cases of conditions: those of ids represent those of lines, and none asks for nothing.
use Rattle.std.proofs.Common.{◌≡◌, ◌<◌, inl, inr, ℕ, zero, suc, List, [], ◌∷◌, ◌++◌, map, Option, Some, None, refl, sym, ◌∙◌, ap, subst, arith}
use Rattle.std.specs.Prelude.{Contains, slice_get}
use Rattle.std.specs.List.{flat_map}
use Rattle.std.proofs.lemmas.Bool.Decides.{Decides-ltb}
use Rattle.resolvo_text.specs.Line.{Spec, Cond, Is, And, Or, Line, Needs}
use Rattle.resolvo_text.specs.Cases.{cases, condition_cases}
use Rattle.resolvo_pool_core.specs.declared.id.ConditionId.{ConditionId}
use Rattle.resolvo_pool_core.specs.declared.id.VersionSetId.{VersionSetId}
use Rattle.resolvo_pool_core.specs.declared.condition.Condition.{Condition}
use Rattle.resolvo_pool_core.specs.declared.condition.Condition.TheVariants.{Binary, Requirement}
use Rattle.resolvo_pool_core.specs.declared.condition.LogicalOperator.TheVariants as joins
use Rattle.resolvo_intern.specs.Intern.{AreBelow}
use Rattle.resolvo_store_core.specs.Cases.{cases_by, cases_within}
use Rattle.resolvo_sat.specs.RuleClauses.{cases_under}
use Rattle.resolvo_sat.proofs.Lists.{contains_one, contains_parts, map_contains}
use Rattle.resolvo_catalogue.specs.Ids.{Ids, IsSpec, IsCondition, IsConditionOf}
use Rattle.resolvo_terms.specs.Terms.{AreEach}
use Rattle.resolvo_catalogue.specs.Known.{condition_at}
use Rattle.resolvo_catalogue.proofs.Elements.{flat_from, each_from_left}
use Rattle.resolvo_terms.proofs.GrowLemmas.{each_more}
use Rattle.resolvo_checker.specs.StepClauses.{case_at}
use Rattle.resolve_refusal.specs.Lines.{IsLeast, IsLineAt, IsNeedLine}

-- ---- each case of a condition asks for something

prefix_nil : {X : Type 0} (xs ys : List X) → [] ≡ xs ++ ys → xs ≡ []
prefix_nil [] ys e = refl
prefix_nil (x ∷ xs) ys e = absurd cc

no_empty_case : (c : Cond) → Contains (cases c) [] → ⊥
no_empty_case (Is s) h = (let e : [] ≡ s ∷ [] = contains_one [] (s ∷ []) h in absurd cc)
no_empty_case (And a b) h =
    let (l, has, more) = flat_from (λ (l : List Spec). map (λ r. l ++ r) (cases b)) (cases a) [] h in
    let (r, other, is) = map_contains (λ (r : List Spec). l ++ r) [] (cases b) more in
    no_empty_case a (subst (λ (x : List Spec). Contains (cases a) x) (prefix_nil l r is) has)
no_empty_case (Or a b) h = elim (contains_parts [] (cases a) (cases b) h) [ inl x ↦ no_empty_case a x | inr y ↦ no_empty_case b y ]

-- the empty case is that of no condition
pub unconditional : (condition : Option Cond) → Contains (condition_cases condition) [] → condition ≡ None
unconditional None h = refl
unconditional (Some c) h = absurd (no_empty_case c h)

-- ---- a need without a condition, by its one case

first_of_none : (j : ℕ) → j < 1 → case_at None j ≡ Some [] → ⊥
first_of_none zero below e = absurd cc
first_of_none (suc j) below e = absurd (omega (arith, below))

pub plain_first : (Among : ℕ → Type 0) (lines : List Line) (alternatives : List Spec) (n : ℕ) → IsLeast (Some n) (λ m. Among m × IsLineAt lines (Needs alternatives None) m) → IsNeedLine Among lines alternatives [] (Some (record { line = n; case = 1 }))
plain_first Among lines alternatives n ((among, is_line), first) = (
  among,
  (Needs alternatives None, is_line, (None, refl, (refl, first_of_none))),
  λ m below here (l, there, (condition, is, has)). first m below (here, there ∙ ap (λ (x : Line). Some x) (is ∙ ap (λ (c : Option Cond). Needs alternatives c) (unconditional condition has))),
)

pub plain_none : (Among : ℕ → Type 0) (lines : List Line) (alternatives : List Spec) → IsLeast None (λ m. Among m × IsLineAt lines (Needs alternatives None) m) → IsNeedLine Among lines alternatives [] None
plain_none Among lines alternatives none m here (l, there, (condition, is, has)) = none m (here, there ∙ ap (λ (x : Line). Some x) (is ∙ ap (λ (c : Option Cond). Needs alternatives c) (unconditional condition has)))

-- ---- the cases of ids

each_map : {W X Y Z : Type 0} (R : W → X → Type 0) (S : Y → Z → Type 0) (f : W → Y) (g : X → Z) → ((w : W) (x : X) → R w x → S (f w) (g x)) → (ws : List W) (xs : List X) → AreEach R ws xs → AreEach S (map f ws) (map g xs)
each_map R S f g step [] [] h = tt
each_map R S f g step [] (x ∷ xs) h = absurd h
each_map R S f g step (w ∷ ws) [] h = absurd h
each_map R S f g step (w ∷ ws) (x ∷ xs) h = (step w x h.0, each_map R S f g step ws xs h.1)

each_pair : {X Y : Type 0} (R : X → Y → Type 0) (ls rs : List (List X)) (ms ss : List (List Y)) → AreEach (AreEach R) ls ms → AreEach (AreEach R) rs ss → AreEach (AreEach R) (flat_map (λ l. map (λ r. l ++ r) rs) ls) (flat_map (λ m. map (λ s. m ++ s) ss) ms)
each_pair R [] rs [] ss h k = tt
each_pair R [] rs (m ∷ ms) ss h k = absurd h
each_pair R (l ∷ ls) rs [] ss h k = absurd h
each_pair R (l ∷ ls) rs (m ∷ ms) ss h k =
    each_more (AreEach R) (map (λ r. l ++ r) rs) (flat_map (λ l. map (λ r. l ++ r) rs) ls) (map (λ s. m ++ s) ss) (flat_map (λ m. map (λ s. m ++ s) ss) ms)
    (each_map (AreEach R) (AreEach R) (λ r. l ++ r) (λ s. m ++ s) (λ r s each. each_more R l r m s h.0 each) rs ss k)
    (each_pair R ls rs ms ss h.1 k)

module _ (ids : Ids) (below : AreBelow ids.conditions) where
  condition_is : (c : ConditionId) (q : Condition) → slice_get ids.conditions c.0 ≡ Some q → condition_at ids c ≡ q
  condition_is c (Requirement v) e = rw e refl
  condition_is c (Binary op a b) e =
      let under = below c.0 (Binary op a b) e in
      rw (e, (Decides-ltb a.0 c.0).1 under.0, (Decides-ltb b.0 c.0).1 under.1) refl

  within_each : (n : ℕ) (c : ConditionId) (source : Cond) → c.0 < n → IsCondition ids c source → AreEach (AreEach (IsSpec ids)) (cases_within (condition_at ids) n c) (cases source)
  within_each zero c source fits h = absurd (omega (arith, fits))
  within_each (suc n) c (Is s) fits (v, at, is) =
      subst (λ (q : Condition). AreEach (AreEach (IsSpec ids)) (cases_by (cases_within (condition_at ids) n) q) ((s ∷ []) ∷ [])) (sym (condition_is c (Requirement v) at)) ((is, tt), tt)
  within_each (suc n) c (And a b) fits (i, j, at, left, right) =
      let under = below c.0 (Binary joins.And i j) at in
      let first : i.0 < c.0 = under.0 in
      let second : j.0 < c.0 = under.1 in
      subst (λ (q : Condition). AreEach (AreEach (IsSpec ids)) (cases_by (cases_within (condition_at ids) n) q) (cases (And a b))) (sym (condition_is c (Binary joins.And i j) at))
      (each_pair (IsSpec ids) (cases_within (condition_at ids) n i) (cases_within (condition_at ids) n j) (cases a) (cases b) (within_each n i a (omega (arith, fits, first)) left) (within_each n j b (omega (arith, fits, second)) right))
  within_each (suc n) c (Or a b) fits (i, j, at, left, right) =
      let under = below c.0 (Binary joins.Or i j) at in
      let first : i.0 < c.0 = under.0 in
      let second : j.0 < c.0 = under.1 in
      subst (λ (q : Condition). AreEach (AreEach (IsSpec ids)) (cases_by (cases_within (condition_at ids) n) q) (cases (Or a b))) (sym (condition_is c (Binary joins.Or i j) at))
      (each_more (AreEach (IsSpec ids)) (cases_within (condition_at ids) n i) (cases_within (condition_at ids) n j) (cases a) (cases b) (within_each n i a (omega (arith, fits, first)) left) (within_each n j b (omega (arith, fits, second)) right))

  -- the version sets of a case represent the SPECs of one of the line's
  pub case_specs : (condition : Option ConditionId) (source : Option Cond) → IsConditionOf ids condition source → (case : List VersionSetId) → Contains (cases_under (condition_at ids) condition) case → (specs : List Spec) × Contains (condition_cases source) specs × AreEach (IsSpec ids) case specs
  case_specs None None h case among = each_from_left (AreEach (IsSpec ids)) ([] ∷ []) ([] ∷ []) (tt, tt) case among
  case_specs None (Some source) h case among = absurd h
  case_specs (Some c) None h case among = absurd h
  case_specs (Some c) (Some source) h case among = each_from_left (AreEach (IsSpec ids)) (cases_within (condition_at ids) (suc c.0) c) (cases source) (within_each (suc c.0) c source (omega arith) h) case among
