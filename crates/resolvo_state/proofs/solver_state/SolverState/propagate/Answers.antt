use Rattle.resolvo_state.proofs.KeepLemmas.{run_extends, run_within, run_kept}
use Rattle.resolvo_state.proofs.solver_state.SolverState.propagate.Goals as goal

pub returns-clause-extends : goal.returns-clause-extends
returns-clause-extends g c = run_extends c.args.self.now.search c.propagate.new.self _ _ c.in_ok-falsified.falsified c.in_ok-falsified.ensures.propagation

pub returns-clause-kept : goal.returns-clause-kept
returns-clause-kept g c = run_kept c.args.self.now c.propagate.new.self c.propagate.new.watching c.in_ok-falsified.falsified c.requires c.in_ok-falsified.ensures.propagation

pub returns-clause-in_range : goal.returns-clause-in_range
returns-clause-in_range g c = run_within c.args.self.now.search c.propagate.new.self _ _ c.in_ok-falsified.falsified c.in_ok-falsified.ensures.propagation
