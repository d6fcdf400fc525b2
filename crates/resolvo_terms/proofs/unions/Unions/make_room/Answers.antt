use Rattle.resolvo_terms.proofs.ListLemmas.{lists_once}
use Rattle.resolvo_terms.proofs.unions.Unions.make_room.Goals as goal

pub of-requires-clause-once : goal.of-requires-clause-once
of-requires-clause-once c = lists_once c.self.inside.lists c.self.inside.index.slots.numbers.items c.self.inside.index.others.entries c.self.invariant
