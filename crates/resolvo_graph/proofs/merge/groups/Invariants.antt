use Rattle.std.proofs.Common.{◌≡◌, ℕ, take}
use Rattle.resolvo_graph.specs.Kept.{ids_at}
use Rattle.resolvo_graph.specs.Merge.{numbered}
use Rattle.resolvo_graph.proofs.merge.groups.Given as goal

abbrev pub invariant-loop-member : goal.invariant-loop-member
invariant-loop-member g l = (n : ℕ) → ids_at l.groups.items n ≡ numbered (take l.member-index l.members) n
