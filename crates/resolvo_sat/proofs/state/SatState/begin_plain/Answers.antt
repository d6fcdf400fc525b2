use Rattle.resolvo_sat.proofs.PairLemmas.{begun_plain}
use Rattle.resolvo_sat.proofs.state.SatState.begin_plain.Goals as goal

pub returns-clause-begun : goal.returns-clause-begun
returns-clause-begun c = begun_plain c.args.clause c.args.pair c.args.self.now c.args.watching.now c.begin.new.self c.requires.both c.in_ok-begin.ensures.begun
