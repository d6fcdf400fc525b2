use Rattle.std.proofs.Common.{subst}
use Rattle.resolvo_sat.specs.State.{clauses_of}
use Rattle.resolvo_sat.specs.Propagation.{IsUnitAssigned}
use Rattle.resolvo_sat.proofs.CompleteLemmas.{unit_at, unit_alone, unit_falsified, units_more}
use Rattle.resolvo_sat.proofs.state.SatState.assign_units.Goals as goal

pub assign_unit-requires-clause-alone : goal.assign_unit-requires-clause-alone
assign_unit-requires-clause-alone c =
    unit_alone c.args.self.now c.loop-unit.self c.unit-item.result c.loop-unit.invariant.extends
    (unit_at (clauses_of c.args.self.now) c.args.units.now c.loop-unit.unit-index c.unit-item.result c.requires.alone c.loop-unit-test.true c.unit-item.is).1

pub returns-in-false-clause-set : goal.returns-in-false-clause-set
returns-in-false-clause-set c =
    let at = unit_at (clauses_of c.args.self.now) c.args.units.now c.loop-unit.unit-index c.unit-item.result c.requires.alone c.loop-unit-test.true c.unit-item.is in
    unit_falsified c.args.self.now c.loop-unit.self c.assign_unit.new.self c.unit-item.result c.loop-unit.invariant.extends c.loop-unit.invariant.qhead at.0 at.1
    (subst (IsUnitAssigned c.unit-item.result c.loop-unit.self c.assign_unit.new.self) c.in-false.is c.in_ok-assign_unit.ensures.set)

pub loop-unit-preserved : goal.loop-unit-preserved
loop-unit-preserved c =
    units_more c.args.units.now c.loop-unit.unit-index c.unit-item.result c.args.self.now c.loop-unit.self c.assign_unit.new.self c.loop-unit-test.true c.unit-item.is c.loop-unit.invariant
    (subst (IsUnitAssigned c.unit-item.result c.loop-unit.self c.assign_unit.new.self) c.in-true.is c.in_ok-assign_unit.ensures.set)
