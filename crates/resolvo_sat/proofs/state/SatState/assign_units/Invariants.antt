use Rattle.std.proofs.Common.{take}
use Rattle.resolvo_sat.specs.Propagation.{AssignsUnits}
use Rattle.resolvo_sat.proofs.state.SatState.assign_units.Given as goal

abbrev pub invariant-loop-unit : goal.invariant-loop-unit
invariant-loop-unit l = AssignsUnits (take l.unit-index l.units) l.initial.self l.self
