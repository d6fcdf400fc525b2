use Rattle.resolvo_sat.specs.Clauses.{sat_clause}
use Rattle.resolvo_sat.proofs.StepLemmas.{clause_held}
use Rattle.resolvo_sat.proofs.state.SatState.push_clause.Goals as goal

pub returns-clause-added : goal.returns-clause-added
returns-clause-added c = clause_held c.args.self.now c.push.new.self (sat_clause c.args.literals.now c.args.causes.now) c.in_ok-id.id c.requires.state c.requires.follows c.requires.in_range c.in_ok-id.ensures.id c.in_ok-id.ensures.put
