-- Which steps are written for which clauses.
use Rattle.std.specs.Prelude.{◌≡◌, ℕ, zero, suc, ◌+◌, ◌⊎◌, List, [], ◌∷◌, ◌++◌, length, map, slice_get, Option, Some, None}
use Rattle.std.proofs.Common.{Vec, Global}
use Rattle.resolvo_pool_core.specs.declared.id.ClauseId.{ClauseId}
use Rattle.resolvo_pool_core.specs.declared.id.VersionSetId.{VersionSetId}
use Rattle.resolvo_store_core.specs.Signed.{Signed}
use Rattle.resolvo_sat.specs.Clauses.{SatClause}
use Rattle.resolvo_sat.specs.Numbered.{meanings}
use Rattle.resolvo_state.specs.declared.atom.ProofAtom.{ProofAtom}
use Rattle.resolvo_state.specs.declared.solver_state.SolverState.{SolverState}
use Rattle.resolvo_state.specs.Kinds.{Kind}
use Rattle.resolvo_state.specs.Atoms.{origin}
use Rattle.resolvo_state.specs.ClauseKinds.{kind_at}
use Rattle.resolvo_proof.specs.declared.step.ProofRule.{ProofRule}
use Rattle.resolvo_proof.specs.declared.step.ProofRule.TheVariants.{Needs, GateOf, Shared, Limit, Outside, Locked, Excluded, Digit, AtLeastOne, Matches}
use Rattle.resolvo_proof.specs.declared.step.ProofLiteral.{ProofLiteral}
use Rattle.resolvo_proof.specs.declared.step.ProofStep.{ProofStep}
use Rattle.resolvo_proof.specs.declared.step.ProofStep.TheVariants.{Rule, Derived}
use Rattle.resolvo_proof.specs.Steps.{literal_in}

-- the atom of the variable; the root's has none
abbrev pub atoms_of : {N S : Type 0} → List (ProofAtom N S) → ℕ → Option (ProofAtom N S)
atoms_of atoms zero = None
atoms_of atoms (suc k) = slice_get atoms k

-- the place of the clause's step before those of others; the root's clause is no step
abbrev pub with_place : ℕ → List ℕ → List ℕ
with_place zero others = others
with_place (suc n) others = n ∷ others

-- the places of the clauses' steps, in this order
abbrev pub places : List ClauseId → List ℕ
places [] = []
places (c ∷ cs) = with_place c.0 (places cs)

-- the rule by which a clause of this kind forbids a solvable, or whatever is outside a version set
abbrev pub forbid_rule : {N S : Type 0} → Kind N S → Option (ProofRule N S)
forbid_rule Kind.Root = None
forbid_rule (Kind.Needs parent need case) = None
forbid_rule (Kind.Gated s r) = None
forbid_rule (Kind.Shared r) = None
forbid_rule (Kind.Limits parent v s) = Some (Limit parent v (Some s))
forbid_rule (Kind.LimitsOutside parent v) = Some (Limit parent v None)
forbid_rule (Kind.IsOut v s) = None
forbid_rule (Kind.Locked locked s) = Some (Locked locked s)
forbid_rule (Kind.Excluded s reason) = Some (Excluded s reason)
forbid_rule (Kind.Digit n s place bit) = None
forbid_rule (Kind.IsThere n s) = None
forbid_rule (Kind.Matches v s) = None
forbid_rule Kind.Learnt = None

-- the rule of a clause of this kind that defines an atom
abbrev pub definition_rule : {N S : Type 0} → Kind N S → Option (ProofRule N S)
definition_rule Kind.Root = None
definition_rule (Kind.Needs parent need case) = None
definition_rule (Kind.Gated s r) = None
definition_rule (Kind.Shared r) = Some (Shared r)
definition_rule (Kind.Limits parent v s) = None
definition_rule (Kind.LimitsOutside parent v) = None
definition_rule (Kind.IsOut v s) = Some (Outside v s)
definition_rule (Kind.Locked locked s) = None
definition_rule (Kind.Excluded s reason) = None
definition_rule (Kind.Digit n s place bit) = Some (Digit s place bit)
definition_rule (Kind.IsThere n s) = Some (AtLeastOne n s)
definition_rule (Kind.Matches v s) = Some (Matches v s)
definition_rule Kind.Learnt = None

-- the rule that is written for a kind; the root's clause and a learnt one have none
abbrev pub IsRuleOf : {N S : Type 0} → Kind N S → Option (ProofRule N S) → Type 0
IsRuleOf Kind.Root encoded = encoded ≡ None
IsRuleOf (Kind.Needs parent need case) encoded = (copy : Vec VersionSetId Global) × (encoded ≡ Some (Needs parent need.requirement copy)) × (copy.items ≡ case)
IsRuleOf (Kind.Gated s r) encoded = encoded ≡ Some (GateOf s r)
IsRuleOf (Kind.Shared r) encoded = encoded ≡ Some (Shared r)
IsRuleOf (Kind.Limits parent v s) encoded = encoded ≡ Some (Limit parent v (Some s))
IsRuleOf (Kind.LimitsOutside parent v) encoded = encoded ≡ Some (Limit parent v None)
IsRuleOf (Kind.IsOut v s) encoded = encoded ≡ Some (Outside v s)
IsRuleOf (Kind.Locked locked s) encoded = encoded ≡ Some (Locked locked s)
IsRuleOf (Kind.Excluded s reason) encoded = encoded ≡ Some (Excluded s reason)
IsRuleOf (Kind.Digit n s place bit) encoded = encoded ≡ Some (Digit s place bit)
IsRuleOf (Kind.IsThere n s) encoded = encoded ≡ Some (AtLeastOne n s)
IsRuleOf (Kind.Matches v s) encoded = encoded ≡ Some (Matches v s)
IsRuleOf Kind.Learnt encoded = encoded ≡ None

-- the step is derived, with the meanings of the literals and the places of the causes
pub record IsDerivation {N S : Type 0} (atoms : List (ProofAtom N S)) (spelled : List Signed) (from : List ClauseId) (step : ProofStep N S) : Type 0 where
  pub literals : Vec (ProofLiteral N S) Global
  pub causes : Vec ℕ Global
  pub derived : step ≡ Derived literals causes
  pub means : map literal_in literals.items ≡ meanings (origin atoms) spelled
  pub read : causes.items ≡ places from

-- the step is the rule that the clause encodes, or is derived as the clause was
abbrev pub IsStepOf : {N S : Type 0} → List (ProofAtom N S) → Kind N S → SatClause → ProofStep N S → Type 0
IsStepOf {N} {S} atoms kinds clause step = ((r : ProofRule N S) × (step ≡ Rule r) × IsRuleOf kinds (Some r)) ⊎ ((kinds ≡ Kind.Learnt) × IsDerivation atoms clause.literals clause.causes step)

-- the step of the clause of this number
pub record IsStepAt {N S : Type 0} (c : SolverState N S) (n : ℕ) (step : ProofStep N S) : Type 0 where
  pub kinds : Kind N S
  pub clause : SatClause
  pub kind_is : kind_at c.kinds.items n ≡ Some kinds
  pub present : slice_get c.search.clauses n ≡ Some clause
  pub writes : IsStepOf c.atoms.keys kinds clause step

-- the steps of the clauses after the root's, in their order
pub record AreSteps {N S : Type 0} (c : SolverState N S) (steps : List (ProofStep N S)) : Type 0 where
  pub count : length steps + 1 ≡ length c.search.clauses
  pub each : (place : ℕ) (step : ProofStep N S) → slice_get steps place ≡ Some step → IsStepAt c (suc place) step

-- the steps of a coding's clauses, and the refusal's after them
pub record AreStepsThen {N S : Type 0} (c : SolverState N S) (spelled : List Signed) (from : List ClauseId) (steps : List (ProofStep N S)) : Type 0 where
  pub earlier : List (ProofStep N S)
  pub final : ProofStep N S
  pub ends : steps ≡ earlier ++ final ∷ []
  pub clauses : AreSteps c earlier
  pub derivation : IsDerivation c.atoms.keys spelled from final
