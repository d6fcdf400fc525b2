use Rattle.resolvo_sat.proofs.PairLemmas.{TiesSoFar}
use Rattle.resolvo_sat.proofs.state.SatState.add_other_ties.Given as goal

abbrev pub invariant-loop-digit : goal.invariant-loop-digit
invariant-loop-digit l = TiesSoFar l.fn.variable l.place l.digits l.digit-index l.rest l.fn.self l.self l.watching
