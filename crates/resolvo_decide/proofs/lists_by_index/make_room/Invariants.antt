use Rattle.std.proofs.Common.{◌≡◌, ℕ, ◌-◌, length}
use Rattle.std.specs.Prelude.{slice_get}
use Rattle.resolvo_store_core.specs.Lists.{items_or_none}
use Rattle.resolvo_decide.proofs.lists_by_index.make_room.Given as goal

-- the lists that were there are unchanged
abbrev pub invariant-loop-alloc : goal.invariant-loop-alloc
invariant-loop-alloc g l = (v : ℕ) → items_or_none (slice_get l.lists.items v) ≡ items_or_none (slice_get l.initial.lists.items v)

abbrev pub decreases-loop-alloc : goal.decreases-loop-alloc
decreases-loop-alloc g l = l.count - length l.lists.items
