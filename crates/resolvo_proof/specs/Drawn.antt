-- The literals of a proof's derived steps: where they are, and their signs.
use Rattle.std.specs.Prelude.{◌≡◌, ℕ, ◌<◌, Bool, List, map, Some, Contains, slice_get}
use Rattle.std.proofs.Common.{Vec, Global}
use Rattle.resolvo_pool_core.specs.RuleKeeping.{Packages}
use Rattle.resolvo_proof.specs.declared.step.ProofLiteral.{ProofLiteral}
use Rattle.resolvo_proof.specs.declared.step.ProofStep.{ProofStep}
use Rattle.resolvo_proof.specs.declared.step.ProofStep.TheVariants.{Derived}
use Rattle.resolvo_proof.specs.Steps.{literal_in, clause_at}
use Rattle.resolvo_proof.specs.Members.{HaveOneSign}

-- each literal of a derived step is in the clause of an earlier step
abbrev pub AreDrawn : {N S : Type 0} → (S → S → Bool) → Packages N S → List (ProofStep N S) → Type 0
AreDrawn {N} {S} same p steps = (n : ℕ) (literals : Vec (ProofLiteral N S) Global) (causes : Vec ℕ Global) → slice_get steps n ≡ Some (Derived literals causes) → (l : ProofLiteral N S) → Contains literals.items l → (m : ℕ) × (m < n) × Contains (clause_at same p steps m) (literal_in l)

-- an atom has one sign in each derived step
abbrev pub HaveOneSigns : {N S : Type 0} → List (ProofStep N S) → Type 0
HaveOneSigns {N} {S} steps = (n : ℕ) (literals : Vec (ProofLiteral N S) Global) (causes : Vec ℕ Global) → slice_get steps n ≡ Some (Derived literals causes) → HaveOneSign (map literal_in literals.items)
