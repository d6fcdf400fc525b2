use Rattle.resolvo_terms.proofs.IndexLemmas.{texts_once}
use Rattle.resolvo_terms.proofs.text_ids.TextIds.make_room.Goals as goal

pub of-requires-clause-once : goal.of-requires-clause-once
of-requires-clause-once c = texts_once c.self.inside.texts c.self.inside.index.slots.numbers.items c.self.inside.index.others.entries c.self.invariant
