use Rattle.resolvo_state.specs.SolverState.{IsCoding}
use Rattle.resolvo_state.specs.Registered.{AreTied}
use Rattle.resolvo_store_tests.proofs.tests.registry.register.Given as goal

abbrev pub invariant-loop-number : goal.invariant-loop-number
invariant-loop-number l = record {
  coding : IsCoding l.coding;
  tied : AreTied l.registry l.coding;
}
