use Rattle.resolvo_graph.proofs.ResultLemmas.{ok_map}
use Rattle.resolvo_graph.proofs.graph.ConflictGraph.simplify.Goals as goal

pub returns-clause-merged : goal.returns-clause-merged
returns-clause-merged g c = ok_map c.merge.result (λ m so. (c.in_ok-profiles.profiles.items, c.in_ok-profiles.ensures.profiles, so)) c.merge.ensures.merged
