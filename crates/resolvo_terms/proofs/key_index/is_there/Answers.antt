use Rattle.resolvo_terms.proofs.KeyedLemmas.{value_if, value_none}
use Rattle.resolvo_terms.proofs.key_index.is_there.Goals as goal

pub returns-in-Some : goal.returns-in-Some
returns-in-Some g c = value_if g.T.HasKey.key_of c.args.values.now c.args.at c.args.key.now c.in-Some.value c.key.result c.is_key.result c.in-Some.ensures c.key.ensures c.is_key.ensures

pub returns-in-None : goal.returns-in-None
returns-in-None g c = value_none g.T.HasKey.key_of c.args.values.now c.args.at c.args.key.now c.in-None.ensures
