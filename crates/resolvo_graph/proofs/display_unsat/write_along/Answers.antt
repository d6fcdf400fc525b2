use Rattle.std.proofs.Common.{subst}
use Rattle.resolvo_graph.specs.Kept.{merged_with}
use Rattle.resolvo_graph.specs.Message.{ArePartsAlong}
use Rattle.resolvo_graph.proofs.ResultLemmas.{on_ok}
use Rattle.resolvo_graph.proofs.display_unsat.write_along.Goals as goal

pub returns-clause-lines : goal.returns-clause-lines
returns-clause-lines g c =
    on_ok c.write_found-done.result (λ (lines, holds, more). (
      lines,
      subst (λ ns. ArePartsAlong g.S.PartialEq.eq (merged_with g.S.PartialEq.eq c.args.merged.now) c.args.graph.now c.args.order.now ns lines) c.in_ok-missing.ensures.nodes holds,
      more,
    )) c.write_found-done.ensures.lines
