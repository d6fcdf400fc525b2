-- Slots by requirement: those of single version sets, and those of unions.
use Rattle.std.specs.Prelude.{◌≡◌, ℕ, List, Option, Some, Result, slice_set}
use Rattle.std.specs.Borrow.{LendsIf, LendsSoOk, MutBor, Fml, RattleType}
use Rattle.resolvo_pool_core.specs.contracts.requirement.RequirementMap.{the_row}
use Rattle.resolvo_pool_core.specs.declared.requirement.Requirement.{Requirement}
use Rattle.resolvo_pool_core.specs.declared.requirement.Requirement.TheVariants.{Single, Union}
use Rattle.resolvo_pool_core.specs.Slots.{at, PutsSlot}

-- the value of a requirement
abbrev pub slot_of : {V : Type 0} → List (Option V) × List (Option V) → Requirement → Option V
slot_of m (Single v) = at m.0 v.0
slot_of m (Union u) = at m.1 u.0

-- n is m with x at the requirement
abbrev pub PutsAt : {V : Type 0} → List (Option V) × List (Option V) → List (Option V) × List (Option V) → Requirement → V → Type 0
PutsAt m n (Single v) x = PutsSlot m.0 n.0 v.0 (Some x) × (n.1 ≡ m.1)
PutsAt m n (Union u) x = PutsSlot m.1 n.1 u.0 (Some x) × (n.0 ≡ m.0)

-- the index of a requirement's id
abbrev pub index_in : Requirement → ℕ
index_in (Single v) = v.0
index_in (Union u) = u.0

-- the slots with x at the requirement, which has a slot
abbrev pub with_slot : {V : Type 0} → List (Option V) × List (Option V) → Requirement → V → List (Option V) × List (Option V)
with_slot m (Single v) x = (slice_set m.0 v.0 (Some x), m.1)
with_slot m (Union u) x = (m.0, slice_set m.1 u.0 (Some x))

-- the map ends with the final value of r for the requirement, if it has a value there
abbrev pub lends_requirement : (T : RattleType) → MutBor (List (Option T.Denot) × List (Option T.Denot)) → Requirement → Option (MutBor T.Denot) → Fml
lends_requirement T s q r = LendsIf (the_row T) T s r (λ w. with_slot s.now q w) s.now

-- the map ends with the final value of r for the requirement; a refused call leaves it unchanged
abbrev pub lends_made : {E : Type 0} (T : RattleType) → MutBor (List (Option T.Denot) × List (Option T.Denot)) → Requirement → Result (MutBor T.Denot) E → Fml
lends_made T s q r = LendsSoOk (the_row T) T s r (λ n w. PutsAt s.now n q w) (λ n. n ≡ s.now)
