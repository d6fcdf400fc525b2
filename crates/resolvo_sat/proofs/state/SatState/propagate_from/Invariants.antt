use Rattle.std.proofs.Common.{◌-◌}
use Rattle.resolvo_sat.specs.Propagation.{Running}
use Rattle.resolvo_sat.specs.State.{count_of}
use Rattle.resolvo_sat.proofs.state.SatState.propagate_from.Given as goal

abbrev pub invariant-loop-literal : goal.invariant-loop-literal
invariant-loop-literal l = Running l.fn.self l.self l.fn.watching l.watching

abbrev pub decreases-loop-literal : goal.decreases-loop-literal
decreases-loop-literal l = count_of l.self - l.self.qhead
