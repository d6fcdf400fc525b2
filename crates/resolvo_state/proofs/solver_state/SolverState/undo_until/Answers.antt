use Rattle.resolvo_state.proofs.KeepLemmas.{undo_kept}
use Rattle.resolvo_state.proofs.solver_state.SolverState.undo_until.Goals as goal

pub returns-clause-kept : goal.returns-clause-kept
returns-clause-kept g c = undo_kept c.args.self.now c.undo_until.new.self c.forget_above.new.self c.args.level c.requires c.undo_until.ensures c.forget_above.ensures
