-- Lists by the places that requirements have among them.
use Rattle.std.specs.Prelude.{◌<◌, ℕ, List, Option, Some, None, length, map, slice_get, IfSome}
use Rattle.resolvo_pool_core.specs.declared.requirement.Requirement.{Requirement}
use Rattle.resolvo_pool_core.specs.ByRequirement.{slot_of}

-- the list at a place, if there is a place
abbrev pub list_at : {X : Type 0} → List (List X) → Option ℕ → Option (List X)
list_at lists None = None
list_at lists (Some n) = slice_get lists n

abbrev pub lists_at : {X : Type 0} → List (List X) → List (Option ℕ) → List (Option (List X))
lists_at lists places = map (list_at lists) places

-- each place is that of a list
abbrev pub ArePlaces : {X : Type 0} → List (List X) → List (Option ℕ) × List (Option ℕ) → Type 0
ArePlaces lists places = (r : Requirement) → IfSome (slot_of places r) (λ n. n < length lists)
