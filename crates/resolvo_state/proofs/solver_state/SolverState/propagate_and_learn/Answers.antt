use Rattle.std.proofs.Common.{rules, refl, subst}
use Rattle.resolvo_sat.specs.PropagateAndLearn.{IsProgress}
use Rattle.resolvo_state.specs.SolverState.{LacksNumber}
use Rattle.resolvo_state.proofs.Clauses.{learnt_is}
use Rattle.resolvo_state.proofs.solver_state.SolverState.propagate_and_learn.Goals as goal

pub returns-in_ok-push-in-Learnt-clause-advanced : goal.returns-in_ok-push-in-Learnt-clause-advanced
returns-in_ok-push-in-Learnt-clause-advanced g c =
    learnt_is c.args.self.now _ c.in-Learnt.clause c.requires
    (subst (IsProgress c.args.self.now.search c.args.self.now.watching c.propagate_and_learn.new.self c.propagate_and_learn.new.watching) c.in-Learnt.is c.in_ok-progress.ensures.progress)
    refl c.in_ok-push-in-Learnt.ensures.items

pub returns-in_err-progress-clause-full : goal.returns-in_err-progress-clause-full
returns-in_err-progress-clause-full g c = search (rules, LacksNumber.clauses)
