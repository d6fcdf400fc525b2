use Rattle.std.proofs.Common.{◌≡◌, map}
use Rattle.resolvo_graph.proofs.merge.shared.Given as goal

abbrev pub invariant-loop-group : goal.invariant-loop-group
invariant-loop-group g l = map (λ r. r.value) l.shared.items ≡ l.yielded
