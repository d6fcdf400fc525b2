use Rattle.resolvo_graph.specs.Kept.{merged_with}
use Rattle.resolvo_graph.proofs.ResultLemmas.{on_ok}
use Rattle.resolvo_graph.proofs.display_unsat.write_lines.Goals as goal

pub returns-clause-lines : goal.returns-clause-lines
returns-clause-lines g c =
    on_ok c.write_merged.result (λ (lines, (order, walked, parts), more). (
      lines,
      record { order = order; merged = merged_with g.S.PartialEq.eq c.in_ok-merged.merged; walked = walked; are_merged = c.in_ok-merged.ensures.merged; parts = parts },
      more,
    )) c.write_merged.ensures.lines
