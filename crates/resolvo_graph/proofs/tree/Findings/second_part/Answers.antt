use Rattle.std.proofs.Common.{◌++◌, ◌∷◌, [], ◌∙◌, sym, refl}
use Rattle.resolvo_graph.specs.Kept.{findings}
use Rattle.resolvo_graph.specs.Message.{heading, conflict_lines}
use Rattle.resolvo_graph.proofs.MessageLemmas.{no_second_part, second_part}
use Rattle.resolvo_graph.proofs.ResultLemmas.{on_ok}
use Rattle.resolvo_graph.proofs.SinkLemmas.{adds_none, adds_both}
use Rattle.resolvo_graph.proofs.tree.Findings.second_part.Goals as goal

pub returns-then-is_empty-clause-lines : goal.returns-then-is_empty-clause-lines
returns-then-is_empty-clause-lines g c = ([], no_second_part (findings g.S.PartialEq.eq c.args.self.now) c.args.others.now c.args.edges.now [] (sym c.is_empty.ensures ∙ c.if-is_empty.true) refl, adds_none g.L.LineSink.took c.args.sink.now)

pub returns-clause-lines : goal.returns-clause-lines
returns-clause-lines g c =
    let f = findings g.S.PartialEq.eq c.args.self.now in
    let own = conflict_lines c.args.edges.now in
    let (tree, is_tree, grown) = c.in_ok-tree.ensures.lines in
    on_ok c.take_conflicts.result (λ more. (
      heading ∷ tree ++ own,
      second_part f c.args.others.now c.args.edges.now tree (heading ∷ tree ++ own) (sym c.is_empty.ensures ∙ c.if-is_empty.false) is_tree refl,
      adds_both g.L.LineSink.took c.args.sink.now c.take_heading.new.sink c.take_conflicts.new.sink (heading ∷ []) (tree ++ own) c.in_ok-take_heading.ensures.took (adds_both g.L.LineSink.took c.take_heading.new.sink c.tree.new.sink c.take_conflicts.new.sink tree own grown more),
    )) c.take_conflicts.ensures.took
