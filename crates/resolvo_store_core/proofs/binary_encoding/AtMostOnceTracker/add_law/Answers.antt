use Rattle.resolvo_store_core.proofs.Ties.{add_ties}
use Rattle.resolvo_store_core.proofs.binary_encoding.AtMostOnceTracker.add_law.Goals as goal

pub returns : goal.returns
returns g c = add_ties g.V.PartialEq.eq c.args.self.now c.args.variable c.args.helper c.requires
