use Rattle.std.proofs.Common.{◌≡◌}
use Rattle.resolvo_sat.specs.Propagation.{Extends}
use Rattle.resolvo_sat.proofs.state.SatState.set_at_once.Given as goal

abbrev pub invariant-loop-start : goal.invariant-loop-start
invariant-loop-start l = Extends l.fn.self l.self × (l.self.qhead ≡ l.fn.self.qhead)
