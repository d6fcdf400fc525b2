use Rattle.std.proofs.Common.{◌≡◌, take}
use Rattle.std.specs.List.{flat_map}
use Rattle.resolvo_proof.specs.Draw.{nodes_of, edges_in}
use Rattle.resolvo_proof.proofs.graph.drawn.Given as goal

abbrev pub invariant-loop-link : goal.invariant-loop-link
invariant-loop-link g l = record {
  nodes : l.graph.nodes ≡ nodes_of g.S.PartialEq.eq (take l.link-index l.links);
  edges : l.graph.edges ≡ flat_map (edges_in g.S.PartialEq.eq l.graph.nodes) (take l.link-index l.links);
}
