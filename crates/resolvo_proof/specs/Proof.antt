-- What a proof is: a list of steps, each a rule or refuted by one pass over earlier ones.
use Rattle.std.specs.Prelude.{◌≡◌, ℕ, ◌<◌, Bool, true, List, [], ◌∷◌, ◌++◌, length, map, slice_get, Option, Some, Contains}
use Rattle.std.proofs.Common.{Vec, Global}
use Rattle.resolvo_pool_core.specs.declared.id.ConditionId.{ConditionId}
use Rattle.resolvo_pool_core.specs.OnePass.{one_pass}
use Rattle.resolvo_pool_core.specs.RuleKeeping.{Packages, Rules, IsRuleKeeping}
use Rattle.resolvo_store_core.specs.AtMostOne.{digit}
use Rattle.resolvo_store_core.specs.Signed.{Signed, has}
use Rattle.resolvo_store_core.specs.Clauses.{no, root as root_variable}
use Rattle.resolvo_sat.specs.RuleClauses as Encoder
use Rattle.resolvo_sat.specs.RuleClauses.{Atom, IsExact, IsRule}
use Rattle.resolvo_state.specs.declared.solver_state.SolverState.{SolverState}
use Rattle.resolvo_state.specs.ClauseKinds.{rules_in}
use Rattle.resolvo_state.specs.Spelled.{Spelled}
use Rattle.resolvo_proof.specs.declared.step.ProofRule.TheVariants.{Digit}
use Rattle.resolvo_proof.specs.declared.step.ProofLiteral.{ProofLiteral}
use Rattle.resolvo_proof.specs.declared.step.ProofStep.{ProofStep}
use Rattle.resolvo_proof.specs.declared.step.ProofStep.TheVariants.{Rule, Derived}
use Rattle.resolvo_proof.specs.Steps.{literal_in, rule_under, clause_at}

-- `same_atom` and `same` compare atoms and solvables
module _ {N S : Type 0} (same_atom : Atom N S → Atom N S → Bool) (same : S → S → Bool) (p : Packages N S) (root : Rules) (steps : List (ProofStep N S)) where
  -- There are causes, they precede the step, and one pass over their clauses, in this order, refutes its denied literals.
  pub record IsRefuted (place : ℕ) (literals : List (ProofLiteral N S)) (causes : List ℕ) : Type 0 where
    pub some : 0 < length causes
    pub earlier : (cause : ℕ) → Contains causes cause → cause < place
    pub refuted : one_pass same_atom (map literal_in literals) (map (clause_at same p steps) causes) ≡ true

  -- the step is allowed at this place
  abbrev pub IsStep : ℕ → ProofStep N S → Type 0
  IsStep place (Rule r) = (condition : Option ConditionId) × IsRule same p root (rule_under condition r)
  IsStep place (Derived literals causes) = IsRefuted place literals.items causes.items

  -- each step is allowed at its place
  abbrev pub IsProof : Type 0
  IsProof = (place : ℕ) (step : ProofStep N S) → slice_get steps place ≡ Some step → IsStep place step

-- the last step is derived and has no literals
pub record EndsEmpty {N S : Type 0} (steps : List (ProofStep N S)) : Type 0 where
  pub earlier : List (ProofStep N S)
  pub literals : Vec (ProofLiteral N S) Global
  pub causes : Vec ℕ Global
  pub ends : steps ≡ earlier ++ Derived literals causes ∷ []
  pub empty : literals.items ≡ []

-- the places of solvables have the digits that the steps name
abbrev pub HaveDigits : {N S : Type 0} → List (ProofStep N S) → (S → ℕ → Bool) → Type 0
HaveDigits {N} {S} steps bits = (n : ℕ) (s : S) (place : ℕ) (bit : ℕ) → slice_get steps n ≡ Some (Rule (Digit s place bit)) → bits s bit ≡ digit place bit

-- The law of such a list: a proof that ends with the empty clause, whose digits some places have, shows that
-- no set keeps the rules.
abbrev pub Convinces : {N S : Type 0} → List (ProofStep N S) → Type 0
Convinces {N} {S} steps = (same_atom : Atom N S → Atom N S → Bool) → IsExact same_atom → (same : S → S → Bool) → IsExact same → (same_name : N → N → Bool) → IsExact same_name → (p : Packages N S) (root : Rules)
    → IsProof same_atom same p root steps → EndsEmpty steps → (bits : S → ℕ → Bool) → HaveDigits steps bits → (chosen : List S) → IsRuleKeeping same p root chosen → ⊥

-- each literal denies the root
abbrev pub DenyRoot : List Signed → Type 0
DenyRoot literals = (l : Signed) → has literals l ≡ true → l ≡ no root_variable

-- the steps are a proof for all packages and for each root whose rules the clauses encode
abbrev pub Proves : {N S : Type 0} → SolverState N S → List (ProofStep N S) → Type 0
Proves {N} {S} c steps = (same_atom : Atom N S → Atom N S → Bool) → IsExact same_atom → (same : S → S → Bool) (p : Packages N S) (root : Rules)
    → Spelled same p c → ((r : Encoder.Rule N S) → rules_in c.kinds.items r → IsRule same p root r) → IsProof same_atom same p root steps
