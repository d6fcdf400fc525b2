use Rattle.std.proofs.Common.{◌≡◌, take}
use Rattle.indexmap.specs.IndexSet.{insert_all}
use Rattle.resolvo_graph.proofs.tree.Findings.mark.Given as goal

abbrev pub invariant-loop-id : goal.invariant-loop-id
invariant-loop-id g l = l.covered.keys ≡ insert_all g.S.PartialEq.eq l.initial.covered.keys (take l.id-index l.id-items)
