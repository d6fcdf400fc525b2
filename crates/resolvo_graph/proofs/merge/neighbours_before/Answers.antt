use Rattle.std.proofs.Common.{◌≡◌, ◌∙◌, ap, map, subst}
use Rattle.resolvo_graph.specs.Graph.{requirement_of}
use Rattle.resolvo_graph.specs.Merge.{IsInOrder, before}
use Rattle.resolvo_graph.proofs.ResultLemmas.{ok_map}
use Rattle.resolvo_graph.proofs.merge.neighbours_before.Goals as goal

pub returns-clause-order : goal.returns-clause-order
returns-clause-order g c =
    let all : c.in_ok-sources.field-0.items ≡ before c.args.graph.now c.args.node = c.in_ok-sources.ensures.ends ∙ ap (map (λ e. (requirement_of e.weight, e.source))) (c.deref.ensures.value ∙ c.in_ok-edges.ensures.edges) in
    ok_map c.in_order.result (λ v h. subst (λ xs. IsInOrder xs v.items) all h) c.in_order.ensures.order
