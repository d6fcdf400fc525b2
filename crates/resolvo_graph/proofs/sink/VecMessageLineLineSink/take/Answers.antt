use Rattle.std.proofs.Common.{◌++◌, ◌∙◌, ap, append_assoc}
use Rattle.resolvo_graph.proofs.sink.VecMessageLineLineSink.take.Goals as goal

pub returns-clause-took : goal.returns-clause-took
returns-clause-took g c = λ start before is. c.in_ok-append.ensures.items ∙ ap (λ ls. ls ++ c.args.lines.now.items) is ∙ append_assoc start.items before c.args.lines.now.items
