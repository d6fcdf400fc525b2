use Rattle.resolvo_pool_core.proofs.OrderedLemmas.{updates_each}
use Rattle.resolvo_pool_core.proofs.ordered_set.set_number_by_hash.Goals as goal

pub returns-clause-set : goal.returns-clause-set
returns-clause-set g c = updates_each g.K.PartialEq.eq c.args.key (g.met.K.Exact.exact c.args.key) (g.met.K.Eq.laws.refl c.args.key) c.args.place c.args.others.now.entries _ c.in_ok-insert.ensures.updates.0
