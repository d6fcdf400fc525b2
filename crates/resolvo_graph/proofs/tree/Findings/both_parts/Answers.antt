use Rattle.std.proofs.Common.{◌++◌, refl}
use Rattle.resolvo_graph.specs.Kept.{findings}
use Rattle.resolvo_graph.proofs.MessageLemmas.{parts}
use Rattle.resolvo_graph.proofs.ResultLemmas.{on_ok}
use Rattle.resolvo_graph.proofs.SinkLemmas.{adds_both}
use Rattle.resolvo_graph.proofs.tree.Findings.both_parts.Goals as goal

pub returns-clause-lines : goal.returns-clause-lines
returns-clause-lines g c =
    let (first, is_tree, taken) = c.in_ok-tree.ensures.lines in
    on_ok c.second_part.result (λ (second, is_second, more). (
      first ++ second,
      parts (findings g.S.PartialEq.eq c.args.self.now) c.args.missing.now.keys c.args.edges.now c.in_ok-without.without.items c.deref.result.now c.in_ok-without.others.items c.deref-2.result.now first second (first ++ second)
          c.in_ok-without.ensures.missing c.in_ok-without.ensures.others c.deref.ensures.value c.deref-2.ensures.value is_tree is_second refl,
      adds_both g.L.LineSink.took c.args.sink.now c.tree.new.sink c.second_part.new.sink first second taken more,
    )) c.second_part.ensures.lines
