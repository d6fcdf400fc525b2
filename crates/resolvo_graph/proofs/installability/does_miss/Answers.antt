use Rattle.std.proofs.Common.{◌∙◌, ap}
use Rattle.resolvo_graph.specs.Runs.{runs_of}
use Rattle.resolvo_graph.proofs.OutlookLemmas.{in_conflict, misses_by}
use Rattle.resolvo_graph.proofs.installability.does_miss.Goals as goal

pub returns-then-has_conflict-clause-answer : goal.returns-then-has_conflict-clause-answer
returns-then-has_conflict-clause-answer g c = in_conflict c.args.graph.now c.args.node c.in_ok-edges.edges.items c.deref.result.now c.has_conflict.result c.in_ok-edges.ensures.edges c.deref.ensures.value c.has_conflict.ensures c.args.marked.now.keys c.if-has_conflict.true

pub returns-clause-answer : goal.returns-clause-answer
returns-clause-answer g c = misses_by c.args.graph.now c.args.node c.in_ok-edges.edges.items c.deref.result.now c.has_conflict.result c.in_ok-edges.ensures.edges c.deref.ensures.value c.has_conflict.ensures c.args.marked.now.keys c.in_ok-runs.runs.items c.deref-3.result.now c.one_has_all.result c.if-has_conflict.false (c.in_ok-runs.ensures.runs ∙ ap runs_of c.deref-2.ensures.value) c.deref-3.ensures.value c.one_has_all.ensures
