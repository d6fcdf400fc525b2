use Rattle.resolvo_sat.specs.Pending.{KeepsLists}
use Rattle.resolvo_sat.proofs.state.SatState.index_trail.Given as goal

abbrev pub invariant-loop-place : goal.invariant-loop-place
invariant-loop-place l = KeepsLists l.fn.watching l.watching
