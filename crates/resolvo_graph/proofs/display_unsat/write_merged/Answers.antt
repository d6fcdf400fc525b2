use Rattle.std.proofs.Common.{subst}
use Rattle.resolvo_graph.specs.Kept.{merged_with}
use Rattle.resolvo_graph.specs.Message.{AreLinesAlong}
use Rattle.resolvo_graph.proofs.ResultLemmas.{on_ok}
use Rattle.resolvo_graph.proofs.display_unsat.write_merged.Goals as goal

pub returns-clause-lines : goal.returns-clause-lines
returns-clause-lines g c =
    on_ok c.write_along-done.result (λ (lines, holds, more). (
      lines,
      (c.in_ok-order.order.items, c.in_ok-order.ensures.order, subst (λ ns. AreLinesAlong g.S.PartialEq.eq (merged_with g.S.PartialEq.eq c.args.merged.now) c.args.graph.now ns lines) c.as_slice.ensures.value holds),
      more,
    )) c.write_along-done.ensures.lines
