-- A proof that ends with the empty clause leaves no rule-keeping set.
use Rattle.std.proofs.Common.{◌≡◌, ℕ, zero, suc, ◌+◌, ◌<◌, Bool, true, List, [], ◌∷◌, map, length, Option, Some, None, refl, sym, ◌∙◌, ap, subst, arith}
use Rattle.std.specs.Prelude.{slice_get}
use Rattle.std.specs.List.{list_all}
use Rattle.std.proofs.lemmas.Bool.{false≢true}
use Rattle.std.proofs.lemmas.List.{length-append}
use Rattle.resolvo_pool_core.specs.declared.id.ConditionId.{ConditionId}
use Rattle.resolvo_pool_core.specs.OnePass.{Literal, clause_true}
use Rattle.resolvo_pool_core.specs.RuleKeeping.{Packages, Rules, IsRuleKeeping}
use Rattle.resolvo_pool_core.proofs.PassSound.{one_pass_true}
use Rattle.resolvo_store_core.specs.AtMostOne.{digit}
use Rattle.resolvo_sat.specs.RuleClauses as Encoder
use Rattle.resolvo_sat.specs.RuleClauses.{Atom, IsExact, IsRule, AgreeWith, value, shown}
use Rattle.resolvo_sat.proofs.Lists.{contained_all, map_contains}
use Rattle.resolvo_sat.proofs.Sound.{rules_sound}
use Rattle.resolvo_state.proofs.Positions.{get_below, get_last}
use Rattle.resolvo_proof.specs.declared.step.ProofRule.{ProofRule}
use Rattle.resolvo_proof.specs.declared.step.ProofRule.TheVariants.{Needs, GateOf, Shared, Limit, Outside, Locked, Excluded, Digit, AtLeastOne, Matches}
use Rattle.resolvo_proof.specs.declared.step.ProofStep.{ProofStep}
use Rattle.resolvo_proof.specs.declared.step.ProofStep.TheVariants.{Rule, Derived}
use Rattle.resolvo_proof.specs.Steps.{literal_in, rule_under, clause_of, clause_at}
use Rattle.resolvo_proof.specs.Proof.{IsRefuted, IsProof, EndsEmpty, HaveDigits, Convinces}
use Rattle.resolvo_proof.proofs.ProveLemmas.{under_any, step_clause}

-- a rule of a digit is that of a place
digit_rule : {N S : Type 0} (condition : Option ConditionId) (x : ProofRule N S) (s : S) (bit : ℕ) (b : Bool) → Encoder.Rule.has_digit s bit b ≡ rule_under condition x → (place : ℕ) × (x ≡ Digit s place bit) × (b ≡ digit place bit)
digit_rule condition (Needs parent q case) s bit b h = absurd cc
digit_rule condition (GateOf t q) s bit b h = absurd cc
digit_rule condition (Shared q) s bit b h = absurd cc
digit_rule condition (Limit parent v None) s bit b h = absurd cc
digit_rule condition (Limit parent v (Some t)) s bit b h = absurd cc
digit_rule condition (Outside v t) s bit b h = absurd cc
digit_rule condition (Locked locked t) s bit b h = absurd cc
digit_rule condition (Excluded t reason) s bit b h = absurd cc
digit_rule condition (Digit t place low) s bit b h =
    let one : s ≡ t = cc in
    let same : bit ≡ low = cc in
    let encoded : b ≡ digit place low = cc in
    (place, (λ i. Digit (sym one i) place (sym same i)), encoded ∙ ap (digit place) (sym same))
digit_rule condition (AtLeastOne n t) s bit b h = absurd cc
digit_rule condition (Matches v t) s bit b h = absurd cc

module _ {N S : Type 0} (same_atom : Atom N S → Atom N S → Bool) (exact_atom : IsExact same_atom) (same : S → S → Bool) (exact : IsExact same) (same_name : N → N → Bool) (names : IsExact same_name) (p : Packages N S) (root : Rules)
    (steps : List (ProofStep N S)) (proof : IsProof same_atom same p root steps) (bits : S → ℕ → Bool) (digits : HaveDigits steps bits) (chosen : List S) (keeps : IsRuleKeeping same p root chosen) where
  -- a rule of the provider that is a step
  abbrev IsStepRule : Encoder.Rule N S → Type 0
  IsStepRule r = IsRule same p root r × ((place : ℕ) × (condition : Option ConditionId) × (x : ProofRule N S) × (slice_get steps place ≡ Some (Rule x)) × (r ≡ rule_under condition x))

  agree : AgreeWith IsStepRule bits
  agree s bit b (is, (n, condition, x, at, e)) =
      let (place, kinds, encoded) = digit_rule condition x s bit b e in
      digits n s place bit (at ∙ ap (λ y. Some (Rule y)) kinds) ∙ sym encoded

  -- the values over the set, with the digits of its members' places
  abbrev at_set : Atom N S → Bool
  at_set a = value same p (shown same p same_name bits chosen) chosen a

  step_true : (place : ℕ) (step : ProofStep N S) → slice_get steps place ≡ Some step → ((cause : ℕ) → cause < place → clause_true at_set (clause_at same p steps cause) ≡ true) → clause_true at_set (clause_of same p step) ≡ true
  step_true place (Rule x) at earlier =
      let (condition, is) = proof place (Rule x) at in
      subst (λ (ls : List (Literal (Atom N S))). clause_true at_set ls ≡ true) (under_any same p condition x)
      (rules_sound same exact p root same_name names IsStepRule bits chosen (λ r present. present.0) agree keeps (rule_under condition x) (is, (place, condition, x, at, refl)))
  step_true place (Derived literals causes) at earlier =
      let r : IsRefuted same_atom same p root steps place literals.items causes.items = proof place (Derived literals causes) at in
      let all : list_all (clause_true at_set) (map (clause_at same p steps) causes.items) ≡ true = contained_all (clause_true at_set) (map (clause_at same p steps) causes.items) (λ ls h.
      let (cause, a, e) = map_contains (clause_at same p steps) ls causes.items h in
      subst (λ (ms : List (Literal (Atom N S))). clause_true at_set ms ≡ true) (sym e) (earlier cause (r.earlier cause a))) in
      one_pass_true same_atom at_set (λ a b h. ap at_set (exact_atom.one a b h)) (map literal_in literals.items) (map (clause_at same p steps) causes.items) all r.refuted

  -- each step before this place is true of the set
  all_true : (n : ℕ) → n < length steps + 1 → (place : ℕ) → place < n → clause_true at_set (clause_at same p steps place) ≡ true
  all_true zero long place below = absurd (omega arith)
  all_true (suc n) long place below =
      let (step, at) = get_below steps place (omega arith) in
      subst (λ (ls : List (Literal (Atom N S))). clause_true at_set ls ≡ true) (sym (step_clause same p steps place step at))
      (step_true place step at (λ cause small. all_true n (omega arith) cause (omega arith)))

  not_empty : EndsEmpty steps → ⊥
  not_empty ends =
      let at : slice_get steps (length ends.earlier) ≡ Some (Derived ends.literals ends.causes) = subst (λ xs. slice_get xs (length ends.earlier) ≡ Some (Derived ends.literals ends.causes)) (sym ends.ends) (get_last ends.earlier (Derived ends.literals ends.causes)) in
      let long : length steps ≡ length ends.earlier + 1 = ap length ends.ends ∙ length-append ends.earlier (Derived ends.literals ends.causes ∷ []) in
      let t : clause_true at_set (map literal_in ends.literals.items) ≡ true = step_true (length ends.earlier) (Derived ends.literals ends.causes) at (all_true (length ends.earlier) (omega arith)) in
      false≢true (subst (λ xs. clause_true at_set (map literal_in xs) ≡ true) ends.empty t)

-- such a list proves that no set keeps the rules
pub convinces : {N S : Type 0} (steps : List (ProofStep N S)) → Convinces steps
convinces steps same_atom exact_atom same exact same_name names p root proof ends bits digits chosen keeps = not_empty same_atom exact_atom same exact same_name names p root steps proof bits digits chosen keeps ends
