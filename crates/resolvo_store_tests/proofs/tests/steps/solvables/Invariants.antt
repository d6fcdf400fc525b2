use Rattle.resolvo_state.specs.SolverState.{IsCoding}
use Rattle.resolvo_store_tests.proofs.tests.steps.solvables.Given as goal

abbrev pub invariant-loop-number : goal.invariant-loop-number
invariant-loop-number l = IsCoding l.coding
