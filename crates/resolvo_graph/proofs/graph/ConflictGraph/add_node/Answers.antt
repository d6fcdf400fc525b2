use Rattle.resolvo_graph.specs.Links.{edges_in}
use Rattle.resolvo_graph.proofs.GraphLemmas.{stays_within}
use Rattle.resolvo_graph.proofs.graph.ConflictGraph.add_node.Goals as goal

pub invariant_of-self-2 : goal.invariant_of-self-2
invariant_of-self-2 g c =
    let kept = stays_within _ c.self.inside.nodes.keys c.insert_full.new.self.keys (edges_in c.self.inside.edges.items) c.args.node (c.self.invariant.0, c.self.invariant.1) c.in_ok-index.ensures.keys in
    (kept.0, kept.1, c.self.invariant.2)
