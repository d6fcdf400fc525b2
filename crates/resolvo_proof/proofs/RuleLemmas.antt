-- The rules at one more place.
use Rattle.std.proofs.Common.{◌≡◌, ℕ, ◌+◌, ◌<◌, List, [], ◌∷◌, ◌++◌, take, length, get_or, Option, Some, None, refl, ap, ◌∙◌}
use Rattle.std.specs.Prelude.{option_and_then, slice_get}
use Rattle.std.specs.List.{filter_map}
use Rattle.std.specs.Option.{option_to_list}
use Rattle.std.proofs.lemmas.List.{take_more}
use Rattle.std.proofs.lemmas.List.Elements.{filter_map-append}
use Rattle.std.proofs.lemmas.Grind.{fold-append}
use Rattle.indexmap.specs.IndexSet.{insert_key, insert_all}
use Rattle.resolvo_pool_core.specs.declared.requirement.Requirement.{Requirement}
use Rattle.resolvo_proof.specs.declared.step.ProofRule.{ProofRule}
use Rattle.resolvo_proof.specs.declared.step.ProofStep.{ProofStep}
use Rattle.resolvo_sat.specs.RuleClauses.{same_requirement}
use Rattle.resolvo_proof.specs.Order.{rule_in, rules_at, named_by, requirements_in}

abbrev pub with_named : Option Requirement → List Requirement → List Requirement
with_named None named = named
with_named (Some q) named = insert_key same_requirement named q

module _ {N S : Type 0} (steps : List (ProofStep N S)) where
  abbrev pub rule_of : ℕ → Option (ProofRule N S)
  rule_of place = rule_in (slice_get steps place)

  -- the rules at the places of a list, and at one more
  pub rules_push : (places : List ℕ) (place : ℕ) → rules_at steps (places ++ place ∷ []) ≡ rules_at steps places ++ option_to_list (rule_of place)
  rules_push places place = filter_map-append rule_of places (place ∷ []) ∙ ap (λ xs. rules_at steps places ++ xs) (one (rule_of place))
    where
      one : (o : Option (ProofRule N S)) → filter_map (λ (x : Option (ProofRule N S)). x) (o ∷ []) ≡ option_to_list o
      one None = refl
      one (Some r) = refl

  pub rules_more : (places : List ℕ) (k : ℕ) → k < length places → rules_at steps (take (k + 1) places) ≡ rules_at steps (take k places) ++ option_to_list (rule_of (get_or places k 0))
  rules_more places k l = ap (rules_at steps) (take_more places k 0 l) ∙ rules_push (take k places) (get_or places k 0)

-- the requirements that one more rule names
pub names_more : {N S : Type 0} (rules : List (ProofRule N S)) (o : Option (ProofRule N S)) → requirements_in (rules ++ option_to_list o) ≡ with_named (option_and_then named_by o) (requirements_in rules)
names_more {N} {S} rules o = ap (λ xs. insert_all same_requirement [] xs) (filter_map-append named_by rules (option_to_list o)) ∙ fold-append (insert_key same_requirement) [] (filter_map named_by rules) (filter_map named_by (option_to_list o)) ∙ last o (requirements_in rules)
  where
    one : (q : Option Requirement) (named : List Requirement) → insert_all same_requirement named (filter_map (λ (x : Option Requirement). x) (q ∷ [])) ≡ with_named q named
    one None named = refl
    one (Some q) named = refl

    last : (o : Option (ProofRule N S)) (named : List Requirement) → insert_all same_requirement named (filter_map named_by (option_to_list o)) ≡ with_named (option_and_then named_by o) named
    last None named = refl
    last (Some r) named = one (named_by r) named
