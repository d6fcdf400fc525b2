use Rattle.std.proofs.Common.{◌∙◌, ap, sym}
use Rattle.resolvo_graph.specs.Graph.{unresolved_of, first_unresolved}
use Rattle.resolvo_graph.proofs.GraphLemmas.{first_here, first_later}
use Rattle.resolvo_graph.proofs.MergeLemmas.{dropped}
use Rattle.resolvo_graph.proofs.graph.ConflictGraph.unresolved_node.Goals as goal

pub returns-then-is_unresolved : goal.returns-then-is_unresolved
returns-then-is_unresolved g c = first_here _ c.loop-index.index c.node-item.result c.is_unresolved.result (unresolved_of c.args.self.now) c.loop-index-test.true c.node-item.is c.is_unresolved.ensures c.loop-index.invariant c.if-is_unresolved.true

pub loop-index-preserved : goal.loop-index-preserved
loop-index-preserved g c = first_later _ c.loop-index.index c.node-item.result c.is_unresolved.result (unresolved_of c.args.self.now) c.loop-index-test.true c.node-item.is c.is_unresolved.ensures c.loop-index.invariant c.if-is_unresolved.false

pub returns : goal.returns
returns g c = sym (c.loop-index.invariant ∙ ap (first_unresolved c.loop-index.index) (dropped _ c.loop-index.index c.loop-index-test.false))
