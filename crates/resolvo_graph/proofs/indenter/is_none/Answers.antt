use Rattle.std.proofs.Common.{◌∙◌}
use Rattle.resolvo_graph.proofs.IndentLemmas.{alone}
use Rattle.resolvo_graph.proofs.indenter.is_none.Goals as goal

pub returns : goal.returns
returns c first = c.is_empty.ensures ∙ alone first c.args.stretches.now
