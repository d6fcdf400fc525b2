use Rattle.std.proofs.Common.{take}
use Rattle.resolvo_sat.proofs.StartLemmas.{SettlesSoFar}
use Rattle.resolvo_sat.proofs.state.SatState.are_settled.Given as goal

abbrev pub invariant-loop-clause : goal.invariant-loop-clause
invariant-loop-clause l = SettlesSoFar l.watching l.fn.self l.self (take l.clause-index l.clause-items)
