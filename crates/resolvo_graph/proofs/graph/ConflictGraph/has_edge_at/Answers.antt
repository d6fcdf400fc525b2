use Rattle.std.proofs.Common.{◌∙◌, ap, sym}
use Rattle.std.specs.Prelude.{◌||◌, is_some}
use Rattle.resolvo_graph.proofs.LinkLemmas.{touched}
use Rattle.resolvo_graph.proofs.graph.ConflictGraph.has_edge_at.Goals as goal

pub returns-then-is_some : goal.returns-then-is_some
returns-then-is_some g c =
    c.if-is_some.true ∙ ap (λ b. b || is_some c.newest_at-entering.result) (sym c.if-is_some.true ∙ c.is_some.ensures)
    ∙ touched c.args.self.now.edges c.args.node c.newest_at-leaving.result c.newest_at-entering.result c.newest_at-leaving.ensures c.newest_at-entering.ensures

pub returns-else-is_some : goal.returns-else-is_some
returns-else-is_some g c =
    c.is_some-else-is_some.ensures ∙ ap (λ b. b || is_some c.newest_at-entering.result) (sym c.if-is_some.false ∙ c.is_some.ensures)
    ∙ touched c.args.self.now.edges c.args.node c.newest_at-leaving.result c.newest_at-entering.result c.newest_at-leaving.ensures c.newest_at-entering.ensures
