use Rattle.std.proofs.Common.{◌++◌, ◌∷◌, [], ◌∙◌, ap}
use Rattle.resolvo_graph.specs.declared.display_line.Sentence.TheVariants.{Incompatible}
use Rattle.resolvo_graph.specs.Message.{heading}
use Rattle.resolvo_graph.proofs.ResultLemmas.{on_ok}
use Rattle.resolvo_graph.proofs.SinkLemmas.{adds_same}
use Rattle.resolvo_graph.proofs.display_unsat.take_heading.Goals as goal

pub returns-clause-took : goal.returns-clause-took
returns-clause-took g c =
    on_ok c.take.result (adds_same g.L.LineSink.took c.args.sink.now c.take.new.self c.push.new.self.items (heading ∷ []) (c.in_ok-push.ensures.items ∙ ap (λ ls. ls ++ record { indenter = c.new.result; sentence = Incompatible } ∷ []) c.new-lines.ensures.items ∙ ap (λ i. record { indenter = i; sentence = Incompatible } ∷ []) c.new.ensures)) c.take.ensures.took
