use Rattle.std.proofs.Common.{◌++◌, refl, map}
use Rattle.resolvo_graph.specs.declared.walk.Step.TheVariants.{Enter}
use Rattle.resolvo_graph.proofs.ListLemmas.{map_more, whole}
use Rattle.resolvo_graph.proofs.walk.enter_targets.Goals as goal

pub loop-edge-preserved : goal.loop-edge-preserved
loop-edge-preserved g c = map_more c.args.edges.now c.loop-edge.edge-index c.edge-item.result c.edge-item.result c.loop-edge-test.true c.edge-item.is (λ e. Enter e.target) c.args.stack.now.items c.loop-edge.stack.items c.push.new.self.items c.loop-edge.invariant c.in_ok-push.ensures.items

pub returns-clause-put : goal.returns-clause-put
returns-clause-put g c = whole (λ es. c.args.stack.now.items ++ map (λ e. Enter e.target) es) c.args.edges.now c.args.edges.now c.loop-edge.edge-index c.loop-edge.stack.items c.loop-edge-test.false refl c.loop-edge.invariant
