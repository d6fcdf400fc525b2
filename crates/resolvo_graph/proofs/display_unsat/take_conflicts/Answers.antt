use Rattle.resolvo_graph.specs.Message.{conflict_lines}
use Rattle.resolvo_graph.proofs.ResultLemmas.{on_ok}
use Rattle.resolvo_graph.proofs.SinkLemmas.{adds_same}
use Rattle.resolvo_graph.proofs.display_unsat.take_conflicts.Goals as goal

pub returns-clause-took : goal.returns-clause-took
returns-clause-took g c = on_ok c.take.result (adds_same g.L.LineSink.took c.args.sink.now c.take.new.self c.in_ok-lines.lines.items (conflict_lines c.args.edges.now) c.in_ok-lines.ensures.lines) c.take.ensures.took
