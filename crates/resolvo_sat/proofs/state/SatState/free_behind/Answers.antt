use Rattle.resolvo_sat.specs.State.{history}
use Rattle.resolvo_sat.specs.Entries.{made_true}
use Rattle.resolvo_sat.proofs.FreeLemmas.{free_later, free_earlier}
use Rattle.resolvo_sat.proofs.state.SatState.free_behind.Goals as goal

pub returns-in-Some : goal.returns-in-Some
returns-in-Some c =
    let known = made_true (history c.args.self.now) in
    free_later known c.args.literals.now c.args.watched.now c.min-passed.result c.in-Some.free c.in-Some.ensures

pub returns-in-None : goal.returns-in-None
returns-in-None c =
    let known = made_true (history c.args.self.now) in
    free_earlier known c.args.literals.now c.args.watched.now c.min-passed.result c.free_among-in-None.result c.in-None.ensures c.free_among-in-None.ensures
