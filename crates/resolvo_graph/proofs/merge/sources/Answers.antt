use Rattle.std.proofs.Common.{◌∙◌, [], ◌∷◌, ◌++◌, ap, refl, map}
use Rattle.resolvo_graph.specs.Graph.{requirement_of}
use Rattle.resolvo_graph.proofs.ListLemmas.{map_more, whole}
use Rattle.resolvo_graph.proofs.merge.sources.Goals as goal

pub loop-edge-preserved : goal.loop-edge-preserved
loop-edge-preserved g c =
    map_more c.args.edges.now c.loop-edge.edge-index c.edge-item.result c.edge-item.result c.loop-edge-test.true c.edge-item.is (λ e. (requirement_of e.weight, e.source)) [] c.loop-edge.found.items c.push.new.self.items c.loop-edge.invariant
    (c.in_ok-push.ensures.items ∙ ap (λ q. c.loop-edge.found.items ++ (q, c.edge-item.result.source) ∷ []) c.requirement.ensures)

pub returns-clause-ends : goal.returns-clause-ends
returns-clause-ends g c = whole (map (λ e. (requirement_of e.weight, e.source))) c.args.edges.now c.args.edges.now c.loop-edge.edge-index c.loop-edge.found.items c.loop-edge-test.false refl c.loop-edge.invariant
