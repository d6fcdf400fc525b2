use Rattle.std.proofs.Common.{◌≡◌, ◌≤◌, ◌-◌, ◌++◌, replicate, None, vec_len}
use Rattle.std.specs.Vec.{vec_capacity}
use Rattle.resolvo_pool_core.proofs.mapping.fill_up.Given as goal

abbrev pub invariant-loop-i : goal.invariant-loop-i
invariant-loop-i g l = (l.slots.items ≡ l.initial.slots.items ++ replicate (l._i - l.before) None) × (vec_len l.slots ≡ l._i) × (l.len ≤ vec_capacity l.slots)
