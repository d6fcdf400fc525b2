use Rattle.std.proofs.Common.{◌∙◌, [], ap}
use Rattle.resolvo_graph.specs.Kept.{findings}
use Rattle.resolvo_graph.specs.Runs.{runs_of}
use Rattle.resolvo_graph.specs.Tree.{in_rank}
use Rattle.resolvo_graph.proofs.ResultLemmas.{on_ok}
use Rattle.resolvo_graph.proofs.TreeLemmas.{put_top}
use Rattle.resolvo_graph.proofs.tree.Findings.place_top.Goals as goal

pub returns-clause-stack : goal.returns-clause-stack
returns-clause-stack g c =
    let f = findings g.S.PartialEq.eq c.args.self.now in
    on_ok c.place-3.result (λ put. put_top c.place-3.new.stack.items c.args.stack.now.items c.new.result (record { levels = []; top_level_indent = c.args.top_level_indent }) _ c.in_ok-ops.ops.items (in_rank f (runs_of c.args.edges.now)) put c.new.ensures c.in_ok-none.ensures.nodes (c.in_ok-ops.ensures.rank ∙ ap (in_rank f) c.in_ok-runs.ensures.runs)) c.place-3.ensures.stack
