use Rattle.std.proofs.Common.{take}
use Rattle.resolvo_sat.specs.AddClause.{IsBesideSoFar}
use Rattle.resolvo_sat.proofs.state.SatState.second_watch.Given as goal

abbrev pub invariant-loop-literal : goal.invariant-loop-literal
invariant-loop-literal l = IsBesideSoFar l.literals (take l.literal-index l.literals) l.first l.second
