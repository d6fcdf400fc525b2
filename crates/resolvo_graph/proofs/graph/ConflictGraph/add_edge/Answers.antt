use Rattle.std.proofs.Common.{◌≡◌, ◌<◌, ◌∙◌, ap, cond, sym, subst, length, All, Some, slice_get, [], ◌∷◌}
use Rattle.std.proofs.lemmas.List.{map-append}
use Rattle.std.proofs.lemmas.List.Elements.{All-push}
use Rattle.resolvo_graph.specs.declared.graph.ConflictNode.TheVariants.{Root}
use Rattle.resolvo_graph.specs.declared.graph.Edge.{Edge}
use Rattle.resolvo_graph.specs.declared.links.LinkedEdge.{LinkedEdge}
use Rattle.resolvo_graph.specs.Graph.{IsWithin}
use Rattle.resolvo_graph.specs.Links.{end_on, is_at, link_on, links_of, edges_in, AreLinked}
use Rattle.resolvo_graph.proofs.LinkLemmas.{still_linked, linked_more}
use Rattle.resolvo_graph.proofs.graph.ConflictGraph.add_edge.Goals as goal

pub invariant_of-self-in_err-push : goal.invariant_of-self-in_err-push
invariant_of-self-in_err-push g c =
    let ks = c.self.inside.nodes.keys in
    let now = c.cover.new.newest.items in
    let es = c.self.inside.edges.items in
    subst (λ ls. (slice_get ks 0 ≡ Some Root) × All (IsWithin ks) (edges_in ls) × AreLinked now ls) (sym c.in_err-push.ensures.items) (c.self.invariant.0, c.self.invariant.1, still_linked c.self.inside.newest.items now es c.self.invariant.2 c.cover.ensures.same)

pub invariant_of-self-2 : goal.invariant_of-self-2
invariant_of-self-2 g c =
    let ks = c.self.inside.nodes.keys in
    let covered = c.cover.new.newest.items in
    let now = c.put_newest.new.newest.items in
    let es = c.self.inside.edges.items in
    let nodes = sym (ap (λ v. v.nodes) c.self.view_is) in
    let edge : Edge g.row.S.Denot = record { source = c.args.source; target = c.args.target; weight = c.args.weight } in
    let l : LinkedEdge g.row.S.Denot = record { edge = edge; older = c.newest_at_ends-older.result } in
    let ends : IsWithin ks edge = (subst (λ ns. c.args.source.0 < length ns) nodes c.requires.source, subst (λ ns. c.args.target.0 < length ns) nodes c.requires.target) in
    subst (λ ls. (slice_get ks 0 ≡ Some Root) × All (IsWithin ks) (edges_in ls) × AreLinked now ls) (sym c.in_ok-push.ensures.items) (
      c.self.invariant.0,
      subst (All (IsWithin ks)) (sym (map-append (λ (k : LinkedEdge g.row.S.Denot). k.edge) es (l ∷ []))) (All-push (IsWithin ks) (edges_in es) edge c.self.invariant.1 ends),
      linked_more covered now es (still_linked c.self.inside.newest.items covered es c.self.invariant.2 c.cover.ensures.same) edge l.older
          (λ side. c.newest_at_ends-older.ensures side ∙ ap (λ ls. link_on side (links_of ls (end_on side edge).0)) c.deref.ensures.value)
          (λ side n. c.put_newest.ensures side n ∙ ap (λ k. cond (is_at side (record { 0 = n }) edge) (Some (record { 0 = k })) (link_on side (links_of covered n))) (c.len-2.ensures ∙ c.self.inside.edges.ok.0)),
    )
