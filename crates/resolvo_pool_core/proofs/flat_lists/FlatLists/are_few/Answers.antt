use Rattle.resolvo_pool_core.proofs.FlatLemmas.{lists_few}
use Rattle.resolvo_pool_core.proofs.flat_lists.FlatLists.are_few.Goals as goal

pub returns : goal.returns
returns g c = lists_few c.self.inside.items.items c.self.inside.ends.items c.args.self.now c.self.view_is c.self.invariant
