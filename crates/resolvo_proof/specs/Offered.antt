-- Which candidates were offered for which requirement.
use Rattle.std.specs.Prelude.{◌≡◌, Bool, true, List, [], Option, Some, None, Vec, is_some, cond}
use Rattle.std.specs.declared.alloc.Global.{Global}
use Rattle.resolvo_pool_core.specs.declared.requirement.Requirement.{Requirement}
use Rattle.resolvo_pool_core.specs.ByRequirement.{slot_of}
use Rattle.resolvo_proof.specs.declared.offers.Offers.{Offers}

abbrev pub items_or_none : {X : Type 0} → Option (Vec X Global) → List X
items_or_none None = []
items_or_none (Some v) = v.items

-- candidates are recorded for the requirement
abbrev pub was_offered : {S : Type 0} → Offers S → Requirement → Bool
was_offered o r = is_some (slot_of o.lists r)

-- the candidates of a requirement, in the order in which they are tried; none before they are
-- recorded
abbrev pub offered_by : {S : Type 0} → Offers S → Requirement → List S
offered_by o r = items_or_none (slot_of o.lists r)

-- in new these are recorded for the requirement, unless others were in old, and all else is as in
-- old
pub record IsOffered {S : Type 0} (old : Offers S) (q : Requirement) (candidates : List S) (new : Offers S) : Type 0 where
  pub recorded : was_offered new q ≡ true
  pub given : offered_by new q ≡ cond (was_offered old q) (offered_by old q) candidates
  pub others : (r : Requirement) → (r ≡ q → ⊥) → (was_offered new r ≡ was_offered old r) × (offered_by new r ≡ offered_by old r)
