use Rattle.resolvo_state.proofs.MemberLemmas.{inserted}
use Rattle.resolvo_state.proofs.keys.include.Goals as goal

pub returns-clause-included : goal.returns-clause-included
returns-clause-included g c = inserted g.K.PartialEq.eq c.args.key c.args.keys.now.keys _ (g.met.K.Exact.exact c.args.key) c.in_ok-insert.ensures.keys
