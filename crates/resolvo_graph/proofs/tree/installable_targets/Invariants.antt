use Rattle.std.proofs.Common.{◌≡◌, take, filter}
use Rattle.resolvo_graph.specs.Walk.{is_among}
use Rattle.resolvo_graph.proofs.tree.installable_targets.Given as goal

abbrev pub invariant-loop-target : goal.invariant-loop-target
invariant-loop-target l = l.found.items ≡ filter (is_among l.installable.keys) (take l.target-index l.target-items)
