-- The hot packages, and the clauses without a candidate of theirs.
use Rattle.std.specs.Prelude.{◌≡◌, ℕ, ◌<◌, true, List, length, slice_get, Option, Some, is_some, Contains}
use Rattle.resolvo_store_core.specs.Lists.{candidates_in}
use Rattle.resolvo_store_core.specs.declared.lists.Candidate.{Candidate}
use Rattle.resolvo_store_core.specs.declared.lists.FixedLists.{FixedLists}
use Rattle.resolvo_store_core.specs.declared.pick.NeedClause.{NeedClause}
use Rattle.resolvo_store_core.specs.declared.pick.NextDecision.{NextDecision}
use Rattle.resolvo_decide.specs.declared.cold_clauses.ColdClauses.{ColdClauses}
use Rattle.resolvo_decide.specs.HotNames.{AreHot}
use Rattle.resolvo_decide.specs.States.{bit_of}

-- the packages that are known as hot are those with a score above 0
abbrev pub IsKnownHot : {N : Type 0} → (N → ℕ) → ColdClauses N → Type 0
IsKnownHot score cold = cold.is_known ≡ true → AreHot score cold.hot.items

-- there is a candidate, and none is of a hot package
pub record AreCold {N : Type 0} (hot : List N) (cs : List (Candidate N)) : Type 0 where
  pub some : 0 < length cs
  pub none : (c : Candidate N) → Contains cs c → Contains hot c.package → ⊥

-- there is a clause at the position, and it is cold
pub record IsColdAt {N : Type 0} (lists : FixedLists N) (hot : List N) (queue : List NeedClause) (i : ℕ) : Type 0 where
  pub need : NeedClause
  pub there : slice_get queue i ≡ Some need
  pub cold : AreCold hot (candidates_in lists need.requirement)

-- a clause whose bit is 0 is cold
abbrev pub HasColdBits : {N : Type 0} → FixedLists N → ColdClauses N → List NeedClause → Type 0
HasColdBits lists cold queue = (i : ℕ) → bit_of cold.warm.items i ≡ 0 → IsColdAt lists cold.hot.items queue i

-- there is a decision, the hot packages are known, and the bit is 0
pub record CanSkip {N : Type 0} (best : Option NextDecision) (cold : ColdClauses N) (i : ℕ) : Type 0 where
  pub some : is_some best ≡ true
  pub known : cold.is_known ≡ true
  pub unmarked : bit_of cold.warm.items i ≡ 0

-- so it is still, whatever the clauses
abbrev pub KeepsCold : {N : Type 0} → ColdClauses N → ColdClauses N → Type 0
KeepsCold {N} old new = (lists : FixedLists N) (queue : List NeedClause) → HasColdBits lists old queue → HasColdBits lists new queue

-- so it is still in each queue with this clause at the position
abbrev pub KeepsColdAt : {N : Type 0} → FixedLists N → ℕ → NeedClause → ColdClauses N → ColdClauses N → Type 0
KeepsColdAt lists position q old new = (queue : List NeedClause) → slice_get queue position ≡ Some q → HasColdBits lists old queue → HasColdBits lists new queue
