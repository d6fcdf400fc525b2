-- The truth of a condition follows from that of its operands, for any depth that is enough.
use Rattle.std.proofs.Common.{◌≡◌, ℕ, zero, suc, ◌<◌, Bool, List, refl, ap, ◌∙◌, arith}
use Rattle.std.specs.Prelude.{◌&&◌, ◌||◌}
use Rattle.resolvo_pool_core.specs.declared.id.ConditionId.{ConditionId}
use Rattle.resolvo_pool_core.specs.declared.id.VersionSetId.{VersionSetId}
use Rattle.resolvo_pool_core.specs.declared.condition.Condition.{Condition}
use Rattle.resolvo_pool_core.specs.declared.condition.Condition.TheVariants.{Binary, Requirement}
use Rattle.resolvo_pool_core.specs.declared.condition.LogicalOperator.TheVariants.{And, Or}
use Rattle.resolvo_pool_core.specs.Provider.{OperandsBelow}
use Rattle.resolvo_pool_core.specs.RuleKeeping.{Packages, IsLawful, truth_of, is_met, holds_within, holds}

-- the truth of operands with smaller ids decides
truth_alike : (met : VersionSetId → Bool) (f g : ConditionId → Bool) (q : Condition) (c : ConditionId) → OperandsBelow q c → ((a : ConditionId) → a.0 < c.0 → f a ≡ g a) → truth_of met f q ≡ truth_of met g q
truth_alike met f g (Requirement v) c below h = refl
truth_alike met f g (Binary And a b) c below h = ap (λ x. x && f b) (h a below.0) ∙ ap (λ x. g a && x) (h b below.1)
truth_alike met f g (Binary Or a b) c below h = ap (λ x. x || f b) (h a below.0) ∙ ap (λ x. g a || x) (h b below.1)

module _ {N S : Type 0} (same : S → S → Bool) (p : Packages N S) (lawful : IsLawful p) where
  steps_alike : (n m : ℕ) (chosen : List S) (c : ConditionId) → c.0 < n → c.0 < m → holds_within same p n chosen c ≡ holds_within same p m chosen c
  steps_alike zero m chosen c h k = absurd (omega arith)
  steps_alike (suc n) zero chosen c h k = absurd (omega arith)
  steps_alike (suc n) (suc m) chosen c h k =
      truth_alike (is_met same p chosen) (holds_within same p n chosen) (holds_within same p m chosen) (p.condition_of c) c (lawful.below c) (λ a l. steps_alike n m chosen a (omega arith) (omega arith))

  -- a condition holds by cases on its kind
  pub holds_by_cases : (chosen : List S) (c : ConditionId) → holds same p chosen c ≡ truth_of (is_met same p chosen) (holds same p chosen) (p.condition_of c)
  holds_by_cases chosen c =
      truth_alike (is_met same p chosen) (holds_within same p c.0 chosen) (holds same p chosen) (p.condition_of c) c (lawful.below c) (λ a l. steps_alike c.0 (suc a.0) chosen a l (omega arith))
