use Rattle.std.proofs.Common.{subst}
use Rattle.resolvo_sat.specs.Analysis.{IsAnalysis}
use Rattle.resolvo_sat.specs.Propagation.{IsPropagation}
use Rattle.resolvo_sat.proofs.ImproveLemmas.{learning_improves}
use Rattle.resolvo_sat.proofs.state.SatState.propagate_and_learn.Goals as goal

pub returns-in_ok-clause-in-Learnt-clause-progress : goal.returns-in_ok-clause-in-Learnt-clause-progress
returns-in_ok-clause-in-Learnt-clause-progress c =
    let conflict = subst (IsPropagation c.args.self.now c.propagate.new.self (record c.args.watching.now { units_done = c.propagate.new.watching.units_done }) c.propagate.new.watching) c.in-Some.is c.in_ok-propagate.ensures.propagation in
    learning_improves c.args.self.now c.propagate.new.self c.learn.new.self c.learn.new.watching c.in-Learnt.learnt c.in_ok-clause-in-Learnt.clause conflict.extends
    (subst (IsAnalysis c.propagate.new.self) c.in-Learnt.is c.in_ok-refusal-in-Some.ensures.analysis) c.in_ok-clause-in-Learnt.ensures.learns
