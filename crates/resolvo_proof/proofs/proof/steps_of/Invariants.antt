use Rattle.std.proofs.Common.{◌≡◌, ◌≤◌, ℕ, suc, length, Some}
use Rattle.std.specs.Prelude.{slice_get}
use Rattle.resolvo_proof.specs.declared.step.ProofStep.{ProofStep}
use Rattle.resolvo_proof.specs.Written.{IsStepAt}
use Rattle.resolvo_proof.proofs.proof.steps_of.Given as goal

-- the steps of the clauses before this number
abbrev pub invariant-loop-number : goal.invariant-loop-number
invariant-loop-number g l = (l.number ≡ suc (length l.steps.items)) × (l.number ≤ length l.coding.search.clauses)
    × ((place : ℕ) (x : ProofStep g.row.N.Denot g.row.S.Denot) → slice_get l.steps.items place ≡ Some x → IsStepAt l.coding (suc place) x)
