use Rattle.std.proofs.Common.{◌≡◌, ◌∙◌, Some, false, ap, sym, map, subst}
use Rattle.std.specs.Prelude.{swap_remove}
use Rattle.resolvo_graph.specs.declared.graph.ConflictNode.TheVariants.{UnresolvedDependency}
use Rattle.resolvo_graph.specs.Graph.{Graph, unresolved_of}
use Rattle.resolvo_graph.specs.Removal.{has_edge_at, with_ends_moved, without_unused_unresolved}
use Rattle.resolvo_graph.specs.Links.{edges_in, AreLinked}
use Rattle.resolvo_graph.proofs.RemovalLemmas.{unresolved_at, of_some, earlier, removes, keeps, edges_in-moved, unlinked, linked_moved}
use Rattle.resolvo_graph.proofs.graph.ConflictGraph.remove_unused_unresolved.Goals as goal

pub move_links-requires : goal.move_links-requires
move_links-requires g c =
    let graph : Graph _ = record { nodes = c.self.inside.nodes.keys; edges = edges_in c.self.inside.edges.items } in
    let u = c.in-Some.unresolved in
    let keys = c.swap_remove_index.new.self.keys in
    let found : unresolved_of graph ≡ Some u = ap unresolved_of c.self.view_is ∙ sym c.unresolved_node.ensures ∙ c.in-Some.is in
    let unused : has_edge_at graph u ≡ false = ap (λ x. has_edge_at x u) c.self.view_is ∙ sym c.has_edge_at.ensures ∙ c.if-has_edge_at.false in
    let left : keys ≡ swap_remove graph.nodes u.0 UnresolvedDependency = of_some c.swap_remove_index.result (λ k. keys ≡ swap_remove graph.nodes u.0 k) UnresolvedDependency (c.swap_remove_index.ensures.key ∙ (unresolved_at graph.nodes u found).1) c.swap_remove_index.ensures.keys in
    record {
      order = earlier graph u keys graph.edges c.len-last.result found left c.len-last.ensures.len;
      none = unlinked c.self.inside.newest.items c.self.inside.edges.items c.self.invariant.2 u.0 c.len-last.result unused;
    }

pub invariant_of-self : goal.invariant_of-self
invariant_of-self g c =
    let graph : Graph _ = record { nodes = c.self.inside.nodes.keys; edges = edges_in c.self.inside.edges.items } in
    let u = c.in-Some.unresolved in
    let keys = c.swap_remove_index.new.self.keys in
    let found : unresolved_of graph ≡ Some u = ap unresolved_of c.self.view_is ∙ sym c.unresolved_node.ensures ∙ c.in-Some.is in
    let unused : has_edge_at graph u ≡ false = ap (λ x. has_edge_at x u) c.self.view_is ∙ sym c.has_edge_at.ensures ∙ c.if-has_edge_at.false in
    let left : keys ≡ swap_remove graph.nodes u.0 UnresolvedDependency = of_some c.swap_remove_index.result (λ k. keys ≡ swap_remove graph.nodes u.0 k) UnresolvedDependency (c.swap_remove_index.ensures.key ∙ (unresolved_at graph.nodes u found).1) c.swap_remove_index.ensures.keys in
    let last = c.len-last.result in
    let edges = edges_in c.move_ends.new.edges.items in
    let put : edges ≡ map (with_ends_moved last u.0) graph.edges = ap edges_in c.move_ends.ensures ∙ edges_in-moved last u.0 c.self.inside.edges.items in
    let kept = keeps graph u keys edges last found unused left c.len-last.ensures.len put (c.self.invariant.0, c.self.invariant.1) in
    (kept.0, kept.1, subst (AreLinked c.move_links.new.newest.items) (sym c.move_ends.ensures) (linked_moved c.self.inside.newest.items c.self.inside.edges.items c.self.invariant.2 u.0 last unused c.move_links.new.newest.items c.move_links.ensures))

pub returns : goal.returns
returns g c =
    let graph : Graph _ = record { nodes = c.self.inside.nodes.keys; edges = edges_in c.self.inside.edges.items } in
    let u = c.in-Some.unresolved in
    let keys = c.swap_remove_index.new.self.keys in
    let found : unresolved_of graph ≡ Some u = ap unresolved_of c.self.view_is ∙ sym c.unresolved_node.ensures ∙ c.in-Some.is in
    let unused : has_edge_at graph u ≡ false = ap (λ x. has_edge_at x u) c.self.view_is ∙ sym c.has_edge_at.ensures ∙ c.if-has_edge_at.false in
    let left : keys ≡ swap_remove graph.nodes u.0 UnresolvedDependency = of_some c.swap_remove_index.result (λ k. keys ≡ swap_remove graph.nodes u.0 k) UnresolvedDependency (c.swap_remove_index.ensures.key ∙ (unresolved_at graph.nodes u found).1) c.swap_remove_index.ensures.keys in
    let last = c.len-last.result in
    let edges = edges_in c.move_ends.new.edges.items in
    let put : edges ≡ map (with_ends_moved last u.0) graph.edges = ap edges_in c.move_ends.ensures ∙ edges_in-moved last u.0 c.self.inside.edges.items in
    removes graph u keys edges last found unused left c.len-last.ensures.len put ∙ ap without_unused_unresolved c.self.view_is
