use Rattle.resolvo.proofs.conflict.Conflict.display_below.Goals as goal

pub returns-clause-long : goal.returns-clause-long
returns-clause-long g c = λ none.
    let counted = rw c.in-None.is at c.in_ok-length_below.ensures.length in
    let (lines, is_message, long) = rw c.provider.ensures at counted in
    (lines, (c.in_ok-graph.graph, c.in_ok-graph.ensures.graph, is_message), long)
