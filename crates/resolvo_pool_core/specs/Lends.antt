-- A container after a value was written through a reference.
use Rattle.std.specs.Prelude.{◌≡◌, ℕ, Result, List, Option, Some, slice_set}
use Rattle.std.specs.Borrow.{Lends, LendsIf, LendsSoOk, MutBor, Fml, RattleType}
use Rattle.resolvo_pool_core.specs.Slots.{PutsSlot}
use Rattle.resolvo_pool_core.specs.contracts.arena.Arena.{the_row as arena_row}
use Rattle.resolvo_pool_core.specs.contracts.mapping.Mapping.{the_row as mapping_row}

-- the arena ends with the final value of r at i
abbrev pub lends_item : (I T : RattleType) → MutBor (List T.Denot) → ℕ → MutBor T.Denot → Fml
lends_item I T s i r = Lends (arena_row I T) T s r (λ w. slice_set s.now i w)

-- the mapping ends with the final value of r at i, if it has a value there
abbrev pub lends_slot : (I T : RattleType) → MutBor (List (Option T.Denot)) → ℕ → Option (MutBor T.Denot) → Fml
lends_slot I T s i r = LendsIf (mapping_row I T) T s r (λ w. slice_set s.now i (Some w)) s.now

-- the mapping ends with the final value of r at i; a refused call leaves it unchanged
abbrev pub lends_kept : {E : Type 0} (I T : RattleType) → MutBor (List (Option T.Denot)) → ℕ → Result (MutBor T.Denot) E → Fml
lends_kept I T s i r = LendsSoOk (mapping_row I T) T s r (λ n w. PutsSlot s.now n i (Some w)) (λ n. n ≡ s.now)
