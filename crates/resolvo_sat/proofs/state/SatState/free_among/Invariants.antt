use Rattle.std.proofs.Common.{take, None}
use Rattle.resolvo_sat.specs.State.{history}
use Rattle.resolvo_sat.specs.Entries.{made_true}
use Rattle.resolvo_sat.specs.Propagation.{IsFree}
use Rattle.resolvo_sat.proofs.state.SatState.free_among.Given as goal

abbrev pub invariant-loop-literal : goal.invariant-loop-literal
invariant-loop-literal l = IsFree (made_true (history l.self)) (take l.literal-index l.literals) l.watched None
