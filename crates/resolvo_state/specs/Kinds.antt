-- The rules that clauses encode.
use Rattle.std.specs.Prelude.{ℕ, List, Option}
use Rattle.resolvo_pool_core.specs.declared.id.StringId.{StringId}
use Rattle.resolvo_pool_core.specs.declared.id.VersionSetId.{VersionSetId}
use Rattle.resolvo_pool_core.specs.declared.requirement.Requirement.{Requirement}
use Rattle.resolvo_pool_core.specs.declared.requirement.ConditionalRequirement.{ConditionalRequirement}

-- the rule that a clause encodes, or that it encodes none
pub data Kind (N S : Type 0) : Type 0 where
  -- the root is true
  Root : Kind N S
  -- for this case of its condition, the parent's requirement has a chosen match
  Needs : Option S → ConditionalRequirement → List VersionSetId → Kind N S
  -- the solvable opens the gate of its requirement, which has no condition
  Gated : S → Requirement → Kind N S
  -- an open gate's requirement has a chosen match
  Shared : Requirement → Kind N S
  -- the parent's version set forbids the solvable
  Limits : Option S → VersionSetId → S → Kind N S
  -- the parent's version set forbids whatever is outside it
  LimitsOutside : Option S → VersionSetId → Kind N S
  -- the solvable is outside the version set
  IsOut : VersionSetId → S → Kind N S
  -- another solvable is locked, the first, which forbids this one
  Locked : S → S → Kind N S
  -- an exclusion, or unknown dependencies, forbid the solvable
  Excluded : S → StringId → Kind N S
  -- the digit of the solvable's place among those of its package, both counted from 0
  Digit : N → S → ℕ → ℕ → Kind N S
  -- the solvable is a candidate of the package
  IsThere : N → S → Kind N S
  -- the solvable matches the version set, whose package is marked `many`
  Matches : VersionSetId → S → Kind N S
  -- no rule: the clause follows from its antecedents
  Learnt : Kind N S
