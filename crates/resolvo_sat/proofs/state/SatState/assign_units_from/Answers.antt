use Rattle.std.proofs.Common.{refl}
use Rattle.resolvo_sat.specs.State.{clauses_of}
use Rattle.resolvo_sat.proofs.CompleteLemmas.{units_rest, units_later}
use Rattle.resolvo_sat.proofs.state.SatState.assign_units_from.Goals as goal

pub assign_units-requires-clause-alone : goal.assign_units-requires-clause-alone
assign_units-requires-clause-alone c = units_rest (clauses_of c.args.self.now) c.args.done c.args.units.now _ refl c.requires.alone

pub returns-clause-set : goal.returns-clause-set
returns-clause-set c = units_later c.args.done c.args.units.now _ c.args.self.now c.assign_units.new.self c.in_ok-falsified.falsified refl c.requires.done c.in_ok-falsified.ensures.set
