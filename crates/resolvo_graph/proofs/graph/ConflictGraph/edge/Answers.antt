use Rattle.std.proofs.Common.{◌∙◌, ap}
use Rattle.std.specs.Prelude.{slice_get}
use Rattle.resolvo_graph.proofs.GraphLemmas.{edge_found, edge_past}
use Rattle.resolvo_graph.proofs.graph.ConflictGraph.edge.Goals as goal

pub returns-in-Some : goal.returns-in-Some
returns-in-Some g c =
    let (found, is, more, (below, other), rest) = c.in-Some.ensures.lookup in
    edge_found c.deref.result.now c.self.inside.edges.items c.args.edge.0 c.in-Some.linked.now c.deref.ensures.value below is ∙ ap (λ v. slice_get v.edges c.args.edge.0) c.self.view_is

pub returns-in-None : goal.returns-in-None
returns-in-None g c = edge_past c.deref.result.now c.self.inside.edges.items c.args.edge.0 c.deref.ensures.value c.in-None.ensures.lookup.3 ∙ ap (λ v. slice_get v.edges c.args.edge.0) c.self.view_is
