use Rattle.std.proofs.Common.{◌≡◌, ◌++◌, ◌≤◌, ap, sym, ◌∙◌, length, arith, subst}
use Rattle.indexmap.specs.IndexSet.{insert_key}
use Rattle.resolvo_proof.specs.Tests.{same_node}
use Rattle.resolvo_proof.specs.Draw.{edges_in}
use Rattle.resolvo_proof.proofs.GraphLemmas.{drawn_nodes, drawn_node, drawn_edge, longer}
use Rattle.resolvo_proof.proofs.graph.draw.Goals as goal

pub add_edge-requires : goal.add_edge-requires
add_edge-requires g c =
    let grown : c.put_node-in-Some.new.graph.nodes ≡ insert_key (same_node g.S.PartialEq.eq) c.put_node.new.graph.nodes c.target.result = ap (λ h. h.nodes) c.in_ok-target-in-Some.ensures.put in
    let long : length c.put_node.new.graph.nodes ≤ length c.put_node-in-Some.new.graph.nodes = subst (λ ns. length c.put_node.new.graph.nodes ≤ length ns) (sym grown) (longer g.S.PartialEq.eq g.met.S.Eq.laws.refl c.put_node.new.graph.nodes c.target.result) in
    record {
      source = omega (arith, long, c.in_ok-source-in-Some.ensures.within);
      target = c.in_ok-target-in-Some.ensures.within;
    }

pub returns-in_ok-add_edge-in-Some-clause-nodes : goal.returns-in_ok-add_edge-in-Some-clause-nodes
returns-in_ok-add_edge-in-Some-clause-nodes g c =
    ap (λ h. h.nodes) c.in_ok-add_edge-in-Some.ensures.put
    ∙ drawn_nodes g.S.PartialEq.eq g.met.S.Eq.laws.refl c.args.graph.now.nodes c.put_node.new.graph.nodes c.put_node-in-Some.new.graph.nodes c.args.link c.in-Some.source c.target.result (sym c.source.ensures ∙ c.in-Some.is) c.target.ensures (ap (λ h. h.nodes) c.in_ok-source-in-Some.ensures.put) (ap (λ h. h.nodes) c.in_ok-target-in-Some.ensures.put)

pub returns-in_ok-add_edge-in-Some-clause-edges : goal.returns-in_ok-add_edge-in-Some-clause-edges
returns-in_ok-add_edge-in-Some-clause-edges g c =
    let had : c.put_node-in-Some.new.graph.edges ≡ c.args.graph.now.edges = ap (λ h. h.edges) c.in_ok-target-in-Some.ensures.put ∙ ap (λ h. h.edges) c.in_ok-source-in-Some.ensures.put in
    let nodes : c.add_edge.new.self.nodes ≡ c.put_node-in-Some.new.graph.nodes = ap (λ h. h.nodes) c.in_ok-add_edge-in-Some.ensures.put in
    ap (λ h. h.edges) c.in_ok-add_edge-in-Some.ensures.put
    ∙ (λ i. had i ++ drawn_edge g.S.PartialEq.eq g.met.S.Eq.laws.refl c.args.graph.now.nodes c.put_node.new.graph.nodes c.put_node-in-Some.new.graph.nodes c.args.link c.in-Some.source c.target.result c.in_ok-source-in-Some.source c.in_ok-target-in-Some.target c.weight.result
    (sym c.source.ensures ∙ c.in-Some.is) c.target.ensures (ap (λ h. h.nodes) c.in_ok-source-in-Some.ensures.put) (ap (λ h. h.nodes) c.in_ok-target-in-Some.ensures.put) c.in_ok-source-in-Some.ensures.index c.in_ok-target-in-Some.ensures.index c.weight.ensures i)
    ∙ ap (λ ns. c.args.graph.now.edges ++ edges_in g.S.PartialEq.eq ns c.args.link) (sym nodes)

pub returns-in_ok-put_node-in-None-clause-nodes : goal.returns-in_ok-put_node-in-None-clause-nodes
returns-in_ok-put_node-in-None-clause-nodes g c =
    drawn_node g.S.PartialEq.eq g.met.S.Eq.laws.refl c.args.graph.now.nodes c.put_node-in-None.new.graph.nodes c.args.link c.target-in-None.result (sym c.source.ensures ∙ c.in-None.is) c.target-in-None.ensures (ap (λ h. h.nodes) c.in_ok-put_node-in-None.ensures.put)
