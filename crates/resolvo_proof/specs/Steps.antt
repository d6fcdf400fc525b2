-- What the steps of a proof say: rules, and clauses over atoms.
use Rattle.std.specs.Prelude.{ℕ, zero, suc, Bool, List, [], ◌∷◌, map, Option, Some, None}
use Rattle.resolvo_pool_core.specs.declared.id.ConditionId.{ConditionId}
use Rattle.resolvo_pool_core.specs.OnePass.{Literal}
use Rattle.resolvo_pool_core.specs.RuleKeeping.{Packages}
use Rattle.resolvo_store_core.specs.AtMostOne.{digit}
use Rattle.resolvo_sat.specs.RuleClauses as Encoder
use Rattle.resolvo_sat.specs.RuleClauses.{Atom, literals_of}
use Rattle.resolvo_state.specs.Atoms.{atom_of}
use Rattle.resolvo_proof.specs.declared.step.ProofRule.{ProofRule}
use Rattle.resolvo_proof.specs.declared.step.ProofRule.TheVariants.{Needs, GateOf, Shared, Limit, Outside, Locked, Excluded, Digit, AtLeastOne, Matches}
use Rattle.resolvo_proof.specs.declared.step.ProofLiteral.{ProofLiteral}
use Rattle.resolvo_proof.specs.declared.step.ProofStep.{ProofStep}
use Rattle.resolvo_proof.specs.declared.step.ProofStep.TheVariants.{Rule, Derived}

-- the literal over atoms
abbrev pub literal_in : {N S : Type 0} → ProofLiteral N S → Literal (Atom N S)
literal_in l = record { atom = atom_of l.atom; positive = l.positive }

-- The rule of a step. A need is encoded for a case of its condition, which is given.
abbrev pub rule_under : {N S : Type 0} → Option ConditionId → ProofRule N S → Encoder.Rule N S
rule_under condition (Needs parent r case) = Encoder.Rule.needs parent (record { condition = condition; requirement = r }) case.items
rule_under condition (GateOf s r) = Encoder.Rule.gated s r
rule_under condition (Shared r) = Encoder.Rule.shared r
rule_under condition (Limit parent v None) = Encoder.Rule.limits_outside parent v
rule_under condition (Limit parent v (Some s)) = Encoder.Rule.limits parent v s
rule_under condition (Outside v s) = Encoder.Rule.is_out v s
rule_under condition (Locked locked s) = Encoder.Rule.forbids (Encoder.ForbidReason.lock locked) s
rule_under condition (Excluded s reason) = Encoder.Rule.forbids (Encoder.ForbidReason.word reason) s
rule_under condition (Digit s place bit) = Encoder.Rule.has_digit s bit (digit place bit)
rule_under condition (AtLeastOne n s) = Encoder.Rule.is_there n s
rule_under condition (Matches v s) = Encoder.Rule.matches v s

module _ {N S : Type 0} (same : S → S → Bool) (p : Packages N S) where
  -- the clause of a step; that of a need is the same under each condition
  abbrev pub clause_of : ProofStep N S → List (Literal (Atom N S))
  clause_of (Rule r) = literals_of same p (rule_under None r)
  clause_of (Derived literals causes) = map literal_in literals.items

  -- the clause of the step at this place
  abbrev pub clause_at : List (ProofStep N S) → ℕ → List (Literal (Atom N S))
  clause_at [] place = []
  clause_at (step ∷ steps) zero = clause_of step
  clause_at (step ∷ steps) (suc place) = clause_at steps place
