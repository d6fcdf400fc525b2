use Rattle.std.proofs.Common.{◌≡◌, [], All, reverse}
use Rattle.resolvo_graph.specs.Kept.{findings}
use Rattle.resolvo_graph.specs.Runs.{runs_of}
use Rattle.resolvo_graph.specs.Tree.{siblings, in_rank}
use Rattle.resolvo_graph.proofs.TreeLemmas.{Follows, IsKnown, weights, reached}
use Rattle.resolvo_graph.proofs.tree.Findings.write_tree.Given as goal

-- the lines of the stack's entries follow those that were taken
abbrev pub invariant-loop-entry : goal.invariant-loop-entry
invariant-loop-entry g l = record {
  known : All (λ e. IsKnown (findings g.S.PartialEq.eq l.self) (reached l.self.graph.now l.edges) e.op) l.writer.stack.items;
  none : l.writer.lines.items ≡ [];
  follows : Follows (findings g.S.PartialEq.eq l.self) g.L.LineSink.took (siblings (record { levels = []; top_level_indent = l.top_level_indent }) [] (reverse (in_rank (findings g.S.PartialEq.eq l.self) (runs_of l.edges)))) l.writer.stack.items l.writer.covered.keys l.initial.sink l.sink;
}

-- the weight of the remaining entries falls
abbrev pub decreases-loop-entry : goal.decreases-loop-entry
decreases-loop-entry g l = weights l.self.graph.now (reached l.self.graph.now l.edges) (reverse l.writer.stack.items)
