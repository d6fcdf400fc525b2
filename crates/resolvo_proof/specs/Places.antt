-- The places of solvables, by the digits in the steps of a proof.
use Rattle.std.specs.Prelude.{◌≡◌, ℕ, List, Some, slice_get}
use Rattle.resolvo_state.specs.declared.solver_state.SolverState.{SolverState}
use Rattle.resolvo_state.specs.declared.registry.Registry.{Registry}
use Rattle.resolvo_state.specs.Registered.{IsRegistered}
use Rattle.resolvo_proof.specs.declared.step.ProofRule.TheVariants.{Digit}
use Rattle.resolvo_proof.specs.declared.step.ProofStep.{ProofStep}
use Rattle.resolvo_proof.specs.declared.step.ProofStep.TheVariants.{Rule}

-- Each solvable has one place, in all steps that name one of its digits.
abbrev pub HaveOnePlace : {N S : Type 0} → List (ProofStep N S) → Type 0
HaveOnePlace {N} {S} steps = (m n : ℕ) (s : S) (k l bit other : ℕ) → slice_get steps m ≡ Some (Rule (Digit s k bit)) → slice_get steps n ≡ Some (Rule (Digit s l other)) → k ≡ l

-- a solvable is registered as one of its own package's alone
abbrev pub AreNamedBy : {N S : Type 0} → Registry N → SolverState N S → (S → N) → Type 0
AreNamedBy {N} {S} r c package_of = (n : N) (s : S) → IsRegistered r c n s → n ≡ package_of s
