use Rattle.resolvo_sat.specs.State.{history}
use Rattle.resolvo_sat.specs.Entries.{made_true}
use Rattle.resolvo_sat.proofs.FreeLemmas.{free_shared_later, free_shared_earlier}
use Rattle.resolvo_sat.proofs.state.SatState.free_shared_first.Goals as goal

pub returns-in-Some : goal.returns-in-Some
returns-in-Some c = free_shared_later (made_true (history c.args.self.now)) c.args.own.now c.args.shared.now c.args.watched.now c.min-passed.result c.in-Some.free c.in-Some.ensures

pub returns-in-None : goal.returns-in-None
returns-in-None c = free_shared_earlier (made_true (history c.args.self.now)) c.args.own.now c.args.shared.now c.args.watched.now c.min-passed.result c.free_of_both.result c.in-None.ensures c.free_of_both.ensures
