use Rattle.std.proofs.Common.{sym}
use Rattle.resolvo_sat.proofs.StartLemmas.{settled_one, settled_none}
use Rattle.resolvo_sat.proofs.state.SatState.is_settled.Goals as goal

pub returns-in-Some : goal.returns-in-Some
returns-in-Some c = settled_one c.args.clause.0 c.args.watching.now c.args.self.now c.may_keep.new.self c.in-Some.watched c.may_keep.result (sym c.in-Some.ensures) c.may_keep.ensures

pub returns-in-None : goal.returns-in-None
returns-in-None c = settled_none c.args.clause.0 c.args.watching.now c.args.self.now c.requires (sym c.in-None.ensures)
