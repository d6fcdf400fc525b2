use Rattle.std.proofs.Common.{◌≡◌, take}
use Rattle.resolvo_graph.proofs.graph.copied.Given as goal

abbrev pub invariant-loop-key : goal.invariant-loop-key
invariant-loop-key g l = l.copy.keys ≡ take l.key-index l.key-items
