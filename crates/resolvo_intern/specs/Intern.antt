-- The lists of a pool, each in the order of first interning: a value's place is its id's index.
use Rattle.std.specs.Prelude.{◌≡◌, ℕ, List, Some, slice_get}
use Rattle.resolvo_pool_core.specs.declared.id.DenseId.{DenseId}
use Rattle.resolvo_pool_core.specs.declared.id.NameTag.{NameTag}
use Rattle.resolvo_pool_core.specs.declared.id.VersionSetId.{VersionSetId}
use Rattle.resolvo_pool_core.specs.declared.condition.Condition.{Condition}
use Rattle.resolvo_intern.specs.declared.pool.Solvable.{Solvable}
use Rattle.resolvo_pool_core.specs.Provider.{OperandsBelow}

pub record Interned (V VS N : Type 0) : Type 0 where
  pub names : List N
  pub strings : List (List ℕ)
  pub solvables : List (Solvable V)
  pub version_sets : List (DenseId NameTag ℕ × VS)
  pub unions : List (List VersionSetId)
  pub conditions : List Condition

-- the operands of each condition precede it
abbrev pub AreBelow : List Condition → Type 0
AreBelow cs = (i : ℕ) (c : Condition) → slice_get cs i ≡ Some c → OperandsBelow c (record { 0 = i })
