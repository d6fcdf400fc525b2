-- The origins of variables.
use Rattle.std.specs.Prelude.{◌≡◌, ℕ, ◌+◌, Bool, false, List, [], ◌∷◌, ◌++◌, length, Option, Some, None, cond}
use Rattle.resolvo_pool_core.specs.declared.id.VariableId.{VariableId}
use Rattle.resolvo_pool_core.specs.declared.solver_id.SolvableIdOrRoot.{SolvableIdOrRoot}
use Rattle.resolvo_pool_core.specs.declared.solver_id.SolvableIdOrRoot.TheVariants as Ids
use Rattle.resolvo_store.specs.declared.variable_map.VariableOrigin.{VariableOrigin}
use Rattle.resolvo_store.specs.declared.variable_map.VariableOrigin.TheVariants.{Root, Solvable, ForbidMultiple, AtLeastOne, ConstrainsViolation, RequiresGate, Matches}

module _ {N S : Type 0} (eq : S → S → Bool) where
  -- the origin is this solvable
  abbrev pub is_of : S → VariableOrigin N S → Bool
  is_of s Root = false
  is_of s (Solvable t) = eq s t
  is_of s (ForbidMultiple n) = false
  is_of s (AtLeastOne n) = false
  is_of s (ConstrainsViolation v) = false
  is_of s (RequiresGate r) = false
  is_of s (Matches v) = false

  -- the first place of the solvable's variable, counted from i, if it has one
  abbrev pub place_from : ℕ → S → List (VariableOrigin N S) → Option ℕ
  place_from i s [] = None
  place_from i s (o ∷ os) = cond (is_of s o) (Some i) (place_from (i + 1) s os)

  abbrev pub place_of : S → List (VariableOrigin N S) → Option ℕ
  place_of s os = place_from 0 s os

  -- the solvable is the origin of the variable at the place, which is an old one or the next one
  abbrev pub InternsAt : Option ℕ → S → VariableId → List (VariableOrigin N S) → List (VariableOrigin N S) → Type 0
  InternsAt None s v old new = (v.0 ≡ length old) × (new ≡ old ++ Solvable s ∷ [])
  InternsAt (Some i) s v old new = (v.0 ≡ i) × (new ≡ old)

  abbrev pub Interns : S → VariableId → List (VariableOrigin N S) → List (VariableOrigin N S) → Type 0
  Interns s v old new = InternsAt (place_of s old) s v old new

  -- the root's variable, or the solvable's
  abbrev pub InternsOrRoot : SolvableIdOrRoot S → VariableId → List (VariableOrigin N S) → List (VariableOrigin N S) → Type 0
  InternsOrRoot Ids.Root v old new = (v.0 ≡ 0) × (new ≡ old)
  InternsOrRoot (Ids.Solvable s) v old new = Interns s v old new

  -- the number of each solvable in the map is the place of its variable
  abbrev pub AreNumbers : List (VariableOrigin N S) → (S → Option ℕ) → Type 0
  AreNumbers os number = (s : S) → number s ≡ place_of s os

-- the origin is no solvable
abbrev pub IsHelper : {N S : Type 0} → VariableOrigin N S → Type 0
IsHelper {N} {S} o = (eq : S → S → Bool) (s : S) → is_of eq s o ≡ false
