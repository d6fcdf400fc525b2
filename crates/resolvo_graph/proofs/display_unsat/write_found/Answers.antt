use Rattle.std.proofs.Common.{subst}
use Rattle.resolvo_graph.specs.Kept.{merged_with}
use Rattle.resolvo_graph.specs.Message.{AreParts}
use Rattle.resolvo_graph.specs.Graph.{edges_of}
use Rattle.resolvo_graph.proofs.ResultLemmas.{on_ok}
use Rattle.resolvo_graph.proofs.display_unsat.write_found.Goals as goal

pub returns-clause-lines : goal.returns-clause-lines
returns-clause-lines g c =
    let graph = c.args.graph.now in
    on_ok c.message.result (λ (lines, holds, more). (
      lines,
      subst (λ ns. AreParts (record { graph = graph; same = g.S.PartialEq.eq; installable = ns; merged = merged_with g.S.PartialEq.eq c.args.merged.now }) c.args.missing.now.keys (edges_of graph (record { 0 = 0 })) lines) c.in_ok-installable.ensures.nodes holds,
      more,
    )) c.message.ensures.lines
