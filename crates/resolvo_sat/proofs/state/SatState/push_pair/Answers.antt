use Rattle.std.proofs.Common.{◌<◌, ◌∷◌, [], arith}
use Rattle.resolvo_sat.specs.Clauses.{sat_clause}
use Rattle.resolvo_sat.proofs.StepLemmas.{clause_held}
use Rattle.resolvo_sat.proofs.state.SatState.push_pair.Goals as goal

pub returns-clause-added : goal.returns-clause-added
returns-clause-added c =
    clause_held c.args.self.now c.push_pair.new.self (sat_clause (c.args.first ∷ c.args.second ∷ []) []) c.in_ok-id.id c.requires.state (λ some. let none : 0 < 0 = some in absurd (omega arith)) c.requires.in_range c.in_ok-id.ensures.id c.in_ok-id.ensures.put
