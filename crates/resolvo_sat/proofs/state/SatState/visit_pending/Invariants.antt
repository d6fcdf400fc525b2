use Rattle.resolvo_sat.specs.Pending.{Proceeds}
use Rattle.resolvo_sat.proofs.state.SatState.visit_pending.Given as goal

abbrev pub invariant-loop-place : goal.invariant-loop-place
invariant-loop-place l = Proceeds l.fn.self l.self l.fn.watching l.watching
