use Rattle.resolvo_sat.specs.State.{history}
use Rattle.resolvo_sat.specs.Entries.{made_true}
use Rattle.resolvo_sat.proofs.FreeLemmas.{free_first, free_second}
use Rattle.resolvo_sat.proofs.state.SatState.free_of_both.Goals as goal

pub returns-in-Some : goal.returns-in-Some
returns-in-Some c = free_first (made_true (history c.args.self.now)) c.args.literals.now c.args.more.now c.args.watched.now c.in-Some.free c.in-Some.ensures

pub returns-in-None : goal.returns-in-None
returns-in-None c = free_second (made_true (history c.args.self.now)) c.args.literals.now c.args.more.now c.args.watched.now c.free_among-in-None.result c.in-None.ensures c.free_among-in-None.ensures
