use Rattle.std.proofs.lemmas.Result.{IfOk-weaker}
use Rattle.resolvo_state.proofs.KeepLemmas.{choice_kept}
use Rattle.resolvo_state.proofs.solver_state.SolverState.choose.Goals as goal

pub returns-clause-kept : goal.returns-clause-kept
returns-clause-kept g c = IfOk-weaker c.choose.result _ _ (λ _ chosen. choice_kept c.args.self.now c.choose.new.self c.args.variable c.args.clause c.requires.coding chosen) c.choose.ensures.chosen
