use Rattle.std.proofs.Common.{◌≡◌, take}
use Rattle.resolvo_state.specs.Chosen.{choices}
use Rattle.resolvo_state.proofs.solver_state.SolverState.chosen.Given as goal

abbrev pub invariant-loop-entry : goal.invariant-loop-entry
invariant-loop-entry g l = l.chosen.items ≡ choices l.self.atoms.keys (take l.entry-index l.entry-items)
