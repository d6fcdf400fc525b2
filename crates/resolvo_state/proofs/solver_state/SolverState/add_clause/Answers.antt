use Rattle.std.proofs.Common.{rules, refl}
use Rattle.resolvo_state.specs.StoredKinds.{plain_kind}
use Rattle.resolvo_state.specs.SolverState.{LacksNumber}
use Rattle.resolvo_state.proofs.Clauses.{adds_rule_is}
use Rattle.resolvo_state.proofs.solver_state.SolverState.add_clause.Goals as goal

pub returns-clause-added_rule : goal.returns-clause-added_rule
returns-clause-added_rule g c = adds_rule_is c.args.self.now _ (plain_kind c.args.kind) _ c.in_ok-clause.clause c.requires.coding c.requires.rule c.in_ok-clause.ensures.added refl refl c.in_ok-push.ensures.items

pub returns-in_err-clause-clause-full : goal.returns-in_err-clause-clause-full
returns-in_err-clause-clause-full g c = search (rules, LacksNumber.clauses)
