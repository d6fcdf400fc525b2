-- Decisions are the same under names, values and scores that agree everywhere.
use Rattle.std.proofs.Common.{◌≡◌, ℕ, ◌+◌, ◌&&◌, ◌||◌, Bool, cond, List, [], ◌∷◌, Option, Some, None, option_map, find, count_by, refl, sym, ◌∙◌, ap}
use Rattle.std.specs.List.{list_any, list_all}
use Rattle.std.proofs.lemmas.List.Sums.{sum_by-cons}
use Rattle.std.proofs.Math.Bool.{beq}
use Rattle.resolvo_pool_core.specs.declared.id.DenseId.{DenseId}
use Rattle.resolvo_pool_core.specs.declared.id.DisjunctionTag.{DisjunctionTag}
use Rattle.resolvo_pool_core.specs.declared.id.LearntClauseTag.{LearntClauseTag}
use Rattle.resolvo_pool_core.specs.declared.requirement.Requirement.{Requirement}
use Rattle.resolvo_store_core.specs.Signed.{Signed, value_under, is_false, is_true, is_open}
use Rattle.resolvo_store_core.specs.Lists.{Named}
use Rattle.resolvo_store_core.specs.Pick.{is_eligible_by, is_broken_by, first_broken_by, decision_for, offer_of, offer_by, pick_after_by, pick_by, later}
use Rattle.resolvo_store_core.specs.declared.lists.Candidate.{Candidate}
use Rattle.resolvo_store_core.specs.declared.pick.NeedClause.{NeedClause}
use Rattle.resolvo_store_core.specs.declared.pick.NextDecision.{NextDecision}

-- ids name the same lists
pub record SameNames {N : Type 0} (n m : Named N) : Type 0 where
  pub candidates : (r : Requirement) → n.candidates r ≡ m.candidates r
  pub condition : (d : Option (DenseId DisjunctionTag ℕ)) → n.condition d ≡ m.condition d
  pub learnt : (l : DenseId LearntClauseTag ℕ) → n.learnt l ≡ m.learnt l

-- ---- tests that agree

module _ {X : Type 0} (f g : X → Bool) (same : (x : X) → f x ≡ g x) where
  pub all_same : (xs : List X) → list_all f xs ≡ list_all g xs
  all_same [] = refl
  all_same (x ∷ xs) = ap (λ b. b && list_all f xs) (same x) ∙ ap (λ b. g x && b) (all_same xs)

  pub any_same : (xs : List X) → list_any f xs ≡ list_any g xs
  any_same [] = refl
  any_same (x ∷ xs) = ap (λ b. b || list_any f xs) (same x) ∙ ap (λ b. g x || b) (any_same xs)

  pub find_same : (xs : List X) → find f xs ≡ find g xs
  find_same [] = refl
  find_same (x ∷ xs) = ap (λ b. cond b (Some x) (find f xs)) (same x) ∙ ap (λ o. cond (g x) (Some x) o) (find_same xs)

  pub count_same : (xs : List X) → count_by f xs ≡ count_by g xs
  count_same [] = refl
  count_same (x ∷ xs) = sum_by-cons (λ y. cond (f y) 1 0) x xs ∙ ap (λ b. cond b 1 0 + count_by f xs) (same x) ∙ ap (λ (n : ℕ). cond (g x) 1 0 + n) (count_same xs) ∙ sym (sum_by-cons (λ y. cond (g y) 1 0) x xs)

option_map_same : {X Y : Type 0} (f g : X → Y) → ((x : X) → f x ≡ g x) → (o : Option X) → option_map f o ≡ option_map g o
option_map_same f g same None = refl
option_map_same f g same (Some x) = ap Some (same x)

module _ {N : Type 0} (n m : Named N) (v u : ℕ → Option Bool) (names : SameNames n m) (values : (i : ℕ) → v i ≡ u i) where
  value_same : (l : Signed) → value_under v l ≡ value_under u l
  value_same l = ap (λ o. option_map (λ b. beq b l.positive) o) (values l.variable.0)

  pub eligible_same : (r : NeedClause) → is_eligible_by n v r ≡ is_eligible_by m u r
  eligible_same r =
      ap (λ o. is_true o && list_all (λ l. is_false (value_under v l)) (n.condition r.condition)) (values r.parent.0)
      ∙ ap (λ b. is_true (u r.parent.0) && b) (all_same (λ l. is_false (value_under v l)) (λ l. is_false (value_under u l)) (λ l. ap is_false (value_same l)) (n.condition r.condition)
      ∙ ap (λ ls. list_all (λ l. is_false (value_under u l)) ls) (names.condition r.condition))

  pub broken_same : (r : NeedClause) → is_broken_by n v r ≡ is_broken_by m u r
  broken_same r =
      ap (λ b. b && list_all (λ c. is_false (value_under v c.literal)) (n.candidates r.requirement)) (eligible_same r)
      ∙ ap (λ b. is_eligible_by m u r && b) (all_same (λ (c : Candidate N). is_false (value_under v c.literal)) (λ c. is_false (value_under u c.literal)) (λ c. ap is_false (value_same c.literal)) (n.candidates r.requirement)
      ∙ ap (λ cs. list_all (λ c. is_false (value_under u c.literal)) cs) (names.candidates r.requirement))

  pub first_broken_same : (rs : List NeedClause) → first_broken_by n v rs ≡ first_broken_by m u rs
  first_broken_same [] = refl
  first_broken_same (r ∷ rs) = ap (λ b. cond b (Some r.clause) (first_broken_by n v rs)) (broken_same r) ∙ ap (λ o. cond (is_broken_by m u r) (Some r.clause) o) (first_broken_same rs)

  module _ (score other : N → ℕ) (scores : (p : N) → score p ≡ other p) where
    decision_same : (r : NeedClause) (cs : List (Candidate N)) (c : Candidate N) → decision_for n v score r cs c ≡ decision_for m u other r cs c
    decision_same r cs c =
        ap (λ (k : ℕ). record { candidate = c.literal.variable; required_by = r.parent; clause_id = r.clause; package_activity = k; candidate_count = count_by (λ d. is_open (value_under v d.literal)) cs }) (scores c.package)
        ∙ ap (λ (k : ℕ). record { candidate = c.literal.variable; required_by = r.parent; clause_id = r.clause; package_activity = other c.package; candidate_count = k })
        (count_same (λ (d : Candidate N). is_open (value_under v d.literal)) (λ d. is_open (value_under u d.literal)) (λ d. ap is_open (value_same d.literal)) cs)

    offer_of_same : (r : NeedClause) (cs : List (Candidate N)) → offer_of n v score r cs ≡ offer_of m u other r cs
    offer_of_same r cs =
        ap (λ b. cond b None (option_map (decision_for n v score r cs) (find (λ c. is_open (value_under v c.literal)) cs)))
        (any_same (λ (c : Candidate N). is_true (value_under v c.literal)) (λ c. is_true (value_under u c.literal)) (λ c. ap is_true (value_same c.literal)) cs)
        ∙ ap (λ o. cond (list_any (λ c. is_true (value_under u c.literal)) cs) None o)
        (option_map_same (decision_for n v score r cs) (decision_for m u other r cs) (decision_same r cs) (find (λ c. is_open (value_under v c.literal)) cs)
        ∙ ap (λ o. option_map (decision_for m u other r cs) o) (find_same (λ (c : Candidate N). is_open (value_under v c.literal)) (λ c. is_open (value_under u c.literal)) (λ c. ap is_open (value_same c.literal)) cs))

    offer_same : (r : NeedClause) → offer_by n v score r ≡ offer_by m u other r
    offer_same r =
        ap (λ b. cond b (offer_of n v score r (n.candidates r.requirement)) None) (eligible_same r)
        ∙ ap (λ o. cond (is_eligible_by m u r) o None) (offer_of_same r (n.candidates r.requirement) ∙ ap (λ cs. offer_of m u other r cs) (names.candidates r.requirement))

    pick_after_same : (best : Option NextDecision) (rs : List NeedClause) → pick_after_by n v score best rs ≡ pick_after_by m u other best rs
    pick_after_same best [] = refl
    pick_after_same best (r ∷ rs) = ap (λ o. pick_after_by n v score (later best o) rs) (offer_same r) ∙ pick_after_same (later best (offer_by m u other r)) rs

    pub pick_same : (rs : List NeedClause) → pick_by n v score rs ≡ pick_by m u other rs
    pick_same rs = pick_after_same None rs
