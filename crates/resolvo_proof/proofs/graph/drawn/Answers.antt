use Rattle.std.proofs.Common.{◌≡◌, ◌++◌, ◌∷◌, [], ◌+◌, ap, sym, ◌∙◌, take}
use Rattle.std.proofs.lemmas.List.{take_more, take_all}
use Rattle.std.specs.List.{flat_map}
use Rattle.indexmap.specs.IndexSet.{insert_key, insert_all}
use Rattle.resolvo_graph.specs.declared.graph.ConflictNode.TheVariants.{UnresolvedDependency}
use Rattle.resolvo_proof.specs.Tests.{same_node}
use Rattle.resolvo_proof.specs.Links.{ends_of}
use Rattle.resolvo_proof.specs.Draw.{nodes_of, edges_in}
use Rattle.resolvo_proof.proofs.GraphLemmas.{nodes_push, edges_push}
use Rattle.resolvo_proof.proofs.graph.drawn.Goals as goal

pub loop-link-init : goal.loop-link-init
loop-link-init g c = record {
  nodes = ap (λ h. h.nodes) c.in_ok-put_node.ensures.put ∙ ap (λ h. insert_key (same_node g.S.PartialEq.eq) h.nodes UnresolvedDependency) c.in_ok-graph.ensures.graph;
  edges = ap (λ h. h.edges) c.in_ok-put_node.ensures.put ∙ ap (λ h. h.edges) c.in_ok-graph.ensures.graph;
}

pub loop-link-preserved : goal.loop-link-preserved
loop-link-preserved g c =
    let links = c.args.links.now in
    let k = c.loop-link.link-index in
    let l = c.link-item.result in
    let more : take (k + 1) links ≡ take k links ++ l ∷ [] = take_more links k l c.loop-link-test.true ∙ ap (λ x. take k links ++ x ∷ []) (sym c.link-item.is) in
    record {
      nodes = c.in_ok-draw.ensures.nodes ∙ ap (λ ns. insert_all (same_node g.S.PartialEq.eq) ns (ends_of l)) c.loop-link.invariant.nodes ∙ sym (ap (nodes_of g.S.PartialEq.eq) more ∙ nodes_push g.S.PartialEq.eq g.met.S.Eq.laws.refl (take k links) l);
      edges = edges_push g.S.PartialEq.eq g.met.S.Eq.laws.refl (take k links) l c.loop-link.graph.nodes c.draw.new.graph.nodes c.loop-link.graph.edges c.draw.new.graph.edges c.loop-link.invariant.nodes c.in_ok-draw.ensures.nodes c.loop-link.invariant.edges c.in_ok-draw.ensures.edges
          ∙ ap (flat_map (edges_in g.S.PartialEq.eq c.draw.new.graph.nodes)) (sym more);
    }

pub returns-clause-graph : goal.returns-clause-graph
returns-clause-graph g c =
    let all = take_all c.loop-link.link-index c.args.links.now c.loop-link-test.false in
    let nodes : c.loop-link.graph.nodes ≡ nodes_of g.S.PartialEq.eq c.args.links.now = c.loop-link.invariant.nodes ∙ ap (nodes_of g.S.PartialEq.eq) all in
    let edges : c.loop-link.graph.edges ≡ flat_map (edges_in g.S.PartialEq.eq (nodes_of g.S.PartialEq.eq c.args.links.now)) c.args.links.now =
    c.loop-link.invariant.edges ∙ ap (flat_map (edges_in g.S.PartialEq.eq c.loop-link.graph.nodes)) all ∙ ap (λ ns. flat_map (edges_in g.S.PartialEq.eq ns) c.args.links.now) nodes in
    λ i. record { nodes = nodes i; edges = edges i }
