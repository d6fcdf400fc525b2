-- The order of a conflict's rules: those from which each step of a refutation follows, each once.
use Rattle.std.specs.Prelude.{ℕ, zero, suc, ◌-◌, nat_eq, nat_lt, Bool, List, [], ◌∷◌, length, reverse, filter, slice_get, Option, Some, None}
use Rattle.std.specs.List.{flat_map, filter_map}
use Rattle.indexmap.specs.IndexSet.{insert_all}
use Rattle.resolvo_pool_core.specs.declared.requirement.Requirement.{Requirement}
use Rattle.resolvo_proof.specs.declared.step.ProofRule.{ProofRule}
use Rattle.resolvo_proof.specs.declared.step.ProofRule.TheVariants.{Needs, GateOf, Shared, Limit, Outside, Locked, Excluded, Digit, AtLeastOne, Matches}
use Rattle.resolvo_proof.specs.declared.step.ProofStep.{ProofStep}
use Rattle.resolvo_proof.specs.declared.step.ProofStep.TheVariants.{Rule, Derived}
use Rattle.resolvo_sat.specs.RuleClauses.{same_requirement}

abbrev pub is_earlier : ℕ → ℕ → Bool
is_earlier place cause = nat_lt cause place

-- A rule follows from itself, a derived step from the rules of its causes, the last one first. A
-- cause that is no earlier step is skipped.
abbrev pub rests_on : {N S : Type 0} → (ℕ → List ℕ) → ℕ → Option (ProofStep N S) → List ℕ
rests_on below place None = []
rests_on below place (Some (Rule r)) = place ∷ []
rests_on below place (Some (Derived literals causes)) = flat_map below (reverse (filter (is_earlier place) causes.items))

module _ {N S : Type 0} (steps : List (ProofStep N S)) where
  -- the rules of the step at this place, to depth n; causes are earlier, so its own place and one
  -- are enough
  abbrev pub rules_within : ℕ → ℕ → List ℕ
  rules_within zero place = []
  rules_within (suc n) place = rests_on (rules_within n) place (slice_get steps place)

  -- the places of the rules of the step at this place, a rule as often as it is visited
  abbrev pub rules_under : ℕ → List ℕ
  rules_under place = rules_within (suc place) place

  -- the places of the conflict's rules: those of the last step, each once, at its first place
  unfoldable pub conflict_order : List ℕ
  conflict_order = insert_all nat_eq [] (rules_under (length steps - 1))

abbrev pub rule_in : {N S : Type 0} → Option (ProofStep N S) → Option (ProofRule N S)
rule_in None = None
rule_in (Some (Rule r)) = Some r
rule_in (Some (Derived literals causes)) = None

-- the rules at these places
abbrev pub rules_at : {N S : Type 0} → List (ProofStep N S) → List ℕ → List (ProofRule N S)
rules_at steps places = filter_map (λ place. rule_in (slice_get steps place)) places

-- the conflict's rules, in its order
abbrev pub conflict_rules : {N S : Type 0} → List (ProofStep N S) → List (ProofRule N S)
conflict_rules steps = rules_at steps (conflict_order steps)

-- the requirement whose candidates a rule names
abbrev pub named_by : {N S : Type 0} → ProofRule N S → Option Requirement
named_by (Needs parent q case) = Some q
named_by (GateOf s q) = None
named_by (Shared q) = Some q
named_by (Limit parent v barred) = None
named_by (Outside v s) = None
named_by (Locked locked s) = None
named_by (Excluded s why) = None
named_by (Digit s place bit) = None
named_by (AtLeastOne n s) = None
named_by (Matches v s) = None

-- the requirements that rules name, each once
abbrev pub requirements_in : {N S : Type 0} → List (ProofRule N S) → List Requirement
requirements_in rules = insert_all same_requirement [] (filter_map named_by rules)
