use Rattle.std.proofs.Common.{◌<◌, ◌++◌, ◌∷◌, [], ◌≡◌, refl, sym, subst, filter, length, arith}
use Rattle.std.specs.Prelude.{Some}
use Rattle.resolvo_graph.specs.Graph.{Graph}
use Rattle.resolvo_graph.specs.Links.{edges_in, is_at, up_to, IsOn}
use Rattle.resolvo_graph.proofs.LinkLemmas.{met, still_on}
use Rattle.resolvo_graph.proofs.graph.ConflictGraph.edge_and_older.Goals as goal

pub returns-clause-edge : goal.returns-clause-edge
returns-clause-edge g c =
    let p = is_at {S = g.row.S.Denot} c.args.side c.args.node in
    let on = subst (λ (v : Graph g.row.S.Denot). IsOn p v.edges (Some c.args.place) (length v.edges)) (sym c.self.view_is) c.requires.at in
    subst (λ (v : Graph g.row.S.Denot). filter p (up_to (Some c.args.place) v.edges) ≡ filter p (up_to c.on.result v.edges) ++ c.index-linked.result.now.edge ∷ []) c.self.view_is
    (met c.self.inside.newest.items c.self.inside.edges.items c.args.side c.args.node c.self.invariant.2 (Some c.args.place) c.args.place refl on c.index-linked.result.now c.on.result c.index-linked.ensures c.on.ensures)

pub returns-clause-older : goal.returns-clause-older
returns-clause-older g c =
    let p = is_at {S = g.row.S.Denot} c.args.side c.args.node in
    let on = subst (λ (v : Graph g.row.S.Denot). IsOn p v.edges (Some c.args.place) (length v.edges)) (sym c.self.view_is) c.requires.at in
    subst (λ (v : Graph g.row.S.Denot). IsOn p v.edges c.on.result (length v.edges)) c.self.view_is
    (still_on c.self.inside.newest.items c.self.inside.edges.items c.args.side c.args.node c.self.invariant.2 (Some c.args.place) c.args.place refl on c.index-linked.result.now c.on.result c.index-linked.ensures c.on.ensures)
