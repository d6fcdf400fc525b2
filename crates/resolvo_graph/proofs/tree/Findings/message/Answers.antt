use Rattle.std.proofs.Common.{◌≡◌, ◌∙◌, ap, subst}
use Rattle.resolvo_graph.specs.Graph.{edges_of}
use Rattle.resolvo_graph.specs.Kept.{findings}
use Rattle.resolvo_graph.specs.Message.{AreParts}
use Rattle.resolvo_graph.proofs.ResultLemmas.{on_ok}
use Rattle.resolvo_graph.proofs.tree.Findings.message.Goals as goal

pub returns-clause-lines : goal.returns-clause-lines
returns-clause-lines g c =
    let graph = c.args.self.now.graph.now in
    let all : c.deref.result.now ≡ edges_of graph (record { 0 = 0 }) = c.deref.ensures.value ∙ c.in_ok-edges.ensures.edges ∙ ap (λ n. edges_of graph (record { 0 = n })) c.root_node.ensures in
    on_ok c.both_parts-done.result (λ (lines, holds, more). (
      lines,
      subst (λ es. AreParts (findings g.S.PartialEq.eq c.args.self.now) c.args.missing.now.keys es lines) all holds,
      more,
    )) c.both_parts-done.ensures.lines
