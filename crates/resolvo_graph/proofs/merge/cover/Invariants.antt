use Rattle.std.proofs.Common.{◌≡◌, ℕ, ◌+◌, ◌-◌, vec_len}
use Rattle.resolvo_graph.specs.Kept.{ids_at}
use Rattle.resolvo_graph.proofs.merge.cover.Given as goal

abbrev pub invariant-loop-alloc : goal.invariant-loop-alloc
invariant-loop-alloc g l = (n : ℕ) → ids_at l.groups.items n ≡ ids_at l.initial.groups.items n

abbrev pub decreases-loop-alloc : goal.decreases-loop-alloc
decreases-loop-alloc g l = l.number + 1 - vec_len l.groups
