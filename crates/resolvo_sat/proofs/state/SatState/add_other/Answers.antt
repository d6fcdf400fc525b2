use Rattle.std.proofs.Common.{[]}
use Rattle.resolvo_sat.specs.Clauses.{sat_clause}
use Rattle.resolvo_sat.proofs.SetLemmas.{adds_kept}
use Rattle.resolvo_sat.proofs.state.SatState.add_other.Goals as goal

pub returns-clause-added : goal.returns-clause-added
returns-clause-added c =
    adds_kept (sat_clause c.args.literals.now []) c.in_ok-clause.clause c.args.self.now c.args.watching.now c.add_clause.new.self c.add_clause.new.watching c.note_rule.new.watching c.in_ok-clause.ensures.added c.in_ok-note_rule.ensures.kept
