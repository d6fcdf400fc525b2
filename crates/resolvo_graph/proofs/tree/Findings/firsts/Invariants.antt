use Rattle.std.proofs.Common.{◌≡◌, ◌++◌, [], drop}
use Rattle.resolvo_graph.specs.Kept.{findings}
use Rattle.resolvo_graph.specs.Tree.{firsts_after}
use Rattle.resolvo_graph.proofs.tree.Findings.firsts.Given as goal

-- the versions found, then the firsts of the remaining ones
abbrev pub invariant-loop-node : goal.invariant-loop-node
invariant-loop-node g l = firsts_after (findings g.S.PartialEq.eq l.self) [] l.candidates ≡ l.found.items ++ firsts_after (findings g.S.PartialEq.eq l.self) l.covered.keys (drop l.node-index l.candidates)
