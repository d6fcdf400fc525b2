use Rattle.std.proofs.Common.{refl}
use Rattle.resolvo_state.specs.Kinds.{Needs}
use Rattle.resolvo_state.proofs.Clauses.{adds_rule_is}
use Rattle.resolvo_state.proofs.solver_state.SolverState.add_case.Goals as goal

pub returns-clause-added_rule : goal.returns-clause-added_rule
returns-clause-added_rule g c = adds_rule_is c.args.self.now _ (Needs c.args.need.parent c.args.need.need c.args.need.case) _ c.in_ok-clause.clause c.requires.coding refl c.in_ok-clause.ensures.added refl refl c.in_ok-push_need.ensures.items
