use Rattle.std.proofs.Common.{take}
use Rattle.resolvo_sat.specs.Analysis.{IsBelow}
use Rattle.resolvo_sat.proofs.state.SatState.below.Given as goal

abbrev pub invariant-loop-literal : goal.invariant-loop-literal
invariant-loop-literal l = IsBelow l.self (take l.literal-index l.met) l.level l.literals.items l.highest
