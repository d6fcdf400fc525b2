use Rattle.std.proofs.Common.{rules}
use Rattle.resolvo_graph.proofs.LinkLemmas.{nothing_linked}
use Rattle.resolvo_graph.proofs.graph.ConflictGraph.new.Goals as goal

pub invariant_of-result : goal.invariant_of-result
invariant_of-result g c = (search rules, search rules, nothing_linked c.new.result.items c.new-2.result.items c.new.ensures.items c.new-2.ensures.items)
