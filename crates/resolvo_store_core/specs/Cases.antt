-- The cases of a condition: it holds exactly if all version sets of some case are met.
use Rattle.std.specs.Prelude.{ℕ, zero, suc, Bool, false, List, [], ◌∷◌, ◌++◌, map}
use Rattle.std.specs.Global.{Vec}
use Rattle.std.specs.List.{flat_map, list_any, list_all}
use Rattle.resolvo_pool_core.specs.declared.id.ConditionId.{ConditionId}
use Rattle.resolvo_pool_core.specs.declared.id.VersionSetId.{VersionSetId}
use Rattle.resolvo_pool_core.specs.declared.condition.Condition.{Condition}
use Rattle.resolvo_pool_core.specs.declared.condition.Condition.TheVariants.{Binary, Requirement}
use Rattle.resolvo_pool_core.specs.declared.condition.LogicalOperator.TheVariants.{And, Or}
use Rattle.resolvo_pool_core.specs.RuleKeeping.{truth_of}

-- each case with each of these, in order
abbrev pub pairs : List (List VersionSetId) → List (List VersionSetId) → List (List VersionSetId)
pairs left right = flat_map (λ l. map (λ r. l ++ r) right) left

-- the cases of a condition, by those of its operands
abbrev pub cases_by : (ConditionId → List (List VersionSetId)) → Condition → List (List VersionSetId)
cases_by below (Requirement v) = (v ∷ []) ∷ []
cases_by below (Binary And a b) = pairs (below a) (below b)
cases_by below (Binary Or a b) = below a ++ below b

-- the cases, looked at n steps down; a condition's operands have smaller ids, so its own id and one are enough
abbrev pub cases_within : (ConditionId → Condition) → ℕ → ConditionId → List (List VersionSetId)
cases_within condition_of zero c = []
cases_within condition_of (suc n) c = cases_by (cases_within condition_of n) (condition_of c)

abbrev pub cases : (ConditionId → Condition) → ConditionId → List (List VersionSetId)
cases condition_of c = cases_within condition_of (suc c.0) c

-- the truth of a condition to depth n, where these version sets are met
abbrev pub truth_within : (VersionSetId → Bool) → (ConditionId → Condition) → ℕ → ConditionId → Bool
truth_within met condition_of zero c = false
truth_within met condition_of (suc n) c = truth_of met (truth_within met condition_of n) (condition_of c)

abbrev pub condition_holds : (VersionSetId → Bool) → (ConditionId → Condition) → ConditionId → Bool
condition_holds met condition_of c = truth_within met condition_of (suc c.0) c

-- all version sets of some case are met
abbrev pub some_case_met : (VersionSetId → Bool) → List (List VersionSetId) → Bool
some_case_met met cs = list_any (λ c. list_all met c) cs

-- the cases of a list of lists
abbrev pub cases_of : List (Vec VersionSetId) → List (List VersionSetId)
cases_of vs = map (λ (v : Vec VersionSetId). v.items) vs
