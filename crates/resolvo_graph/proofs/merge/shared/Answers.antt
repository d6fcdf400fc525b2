use Rattle.std.proofs.Common.{◌∙◌}
use Rattle.std.proofs.lemmas.Iterator.Consumers.{YieldsList-end}
use Rattle.std.proofs.lemmas.Iterator.Adapters.{YieldsList-from_vec}
use Rattle.resolvo_graph.proofs.TreeLemmas.{all_yielded}
use Rattle.resolvo_graph.proofs.merge.shared.Goals as goal

pub returns-clause-groups : goal.returns-clause-groups
returns-clause-groups g c =
    let given = c.into_iter-group-iterator.ensures.into_iter_gives in
    let ended = YieldsList-end (YieldsList-from_vec {s = c.into_iter-group-iterator.result} c.args.groups.items given.0 (given.1 ∙ c.args.groups.ok.0)) c.loop-group.yielded c.loop-group.group-iterator c.loop-group.yielded_by c.next.result c.next.new.self c.in-None.is c.next.ensures.steps in
    c.loop-group.invariant ∙ all_yielded c.loop-group.yielded c.args.groups.items ended.0
