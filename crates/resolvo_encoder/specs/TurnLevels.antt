-- The conditions for the end of a turn.
use Rattle.std.specs.Prelude.{◌≡◌, ℕ, ◌<◌, Bool, true, List, Option, Some, None, slice_get, Contains}
use Rattle.resolvo_pool_core.specs.declared.solver_id.SolvableIdOrRoot.TheVariants.{Root, Solvable}
use Rattle.resolvo_store_core.specs.Signed.{Signed, has}
use Rattle.resolvo_store_core.specs.Lists.{named_by}
use Rattle.resolvo_store_core.specs.Pick.{offer_by}
use Rattle.resolvo_store_core.specs.declared.pick.NeedClause.{NeedClause}
use Rattle.resolvo_decide.specs.Queue.{needs_of}
use Rattle.resolvo_encoder.specs.declared.encoder.Encoder.{Encoder}

-- the variables' values are those that make these literals true
pub record AreValues (values : ℕ → Option Bool) (known : List Signed) : Type 0 where
  pub valued : (l : Signed) → has known l ≡ true → values l.variable.0 ≡ Some l.positive
  pub made : (l : Signed) → values l.variable.0 ≡ Some l.positive → has known l ≡ true

-- no clause of the queue has anything to decide
abbrev pub IsDecided : {N S : Type 0} → Encoder N S → (ℕ → Option Bool) → (N → ℕ) → Type 0
IsDecided e values score = (q : NeedClause) → Contains (needs_of e.queue) q
    → offer_by (named_by e.lists) values score q ≡ None

-- the root and each of these solvables are among the encoded parents
pub record AreAmongEncoded {N S : Type 0} (e : Encoder N S) (members : List S) : Type 0 where
  pub root : (i : ℕ) × (i < e.encoded) × (slice_get e.parents.keys i ≡ Some Root)
  pub each : (s : S) → Contains members s
      → (i : ℕ) × (i < e.encoded) × (slice_get e.parents.keys i ≡ Some (Solvable s))
