use Rattle.std.proofs.Common.{arith}
use Rattle.resolvo_graph.proofs.IndentLemmas.{more_levels}
use Rattle.resolvo_graph.proofs.indenter.is_one.Goals as goal

pub returns-in_default-2 : goal.returns-in_default-2
returns-in_default-2 c = more_levels c.args.stretches.now (omega arith)
