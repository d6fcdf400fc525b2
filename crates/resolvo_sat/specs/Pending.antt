-- Pending clauses, which watch a literal that was false as they were added.
use Rattle.std.specs.Prelude.{◌≡◌, ◌<◌, ◌≤◌, ℕ, ◌⊎◌, Bool, true, false, List, Option, Some, None}
use Rattle.resolvo_pool_core.specs.declared.id.ClauseId.{ClauseId}
use Rattle.resolvo_store_core.specs.Signed.{Signed, negation, has}
use Rattle.resolvo_store_core.specs.Watches.{pair_at, count}
use Rattle.resolvo_store_core.specs.declared.watched_literals.WatchedLiterals.{WatchedLiterals}
use Rattle.resolvo_sat.specs.declared.state.SatState.{SatState}
use Rattle.resolvo_sat.specs.declared.watch_lists.WatchLists.{WatchLists}
use Rattle.resolvo_sat.specs.Entries.{made_true, before, IsTrueAt}
use Rattle.resolvo_sat.specs.State.{history}
use Rattle.resolvo_sat.specs.Propagation.{IsReady, IsGuard, GuardsTo, IsPending, AreWithin, SameWatching, Extends, Conflicts}

-- each literal of the clause is this one, or false
abbrev pub AreFalseBut : Signed → List Signed → List Signed → Type 0
AreFalseBut l known clause = (m : Signed) → has clause m ≡ true → (m ≡ l) ⊎ (has known (negation m) ≡ true)

-- each literal of the clause is false
abbrev pub AreFalse : List Signed → List Signed → Type 0
AreFalse known clause = (m : Signed) → has clause m ≡ true → has known (negation m) ≡ true

-- neither of the two is false
pub record AreOpen (known : List Signed) (p : WatchedLiterals) : Type 0 where
  pub first : has known (negation p.first) ≡ false
  pub second : has known (negation p.second) ≡ false

-- clauses were visited: literals were assigned, and watches moved
pub record Proceeds (old new : SatState) (v w : WatchLists) : Type 0 where
  pub watching : SameWatching v w
  pub ready : IsReady new w
  pub extends : Extends old new
  pub qhead : new.qhead ≡ old.qhead

-- only what no proof rests on has changed
pub record KeepsLists (v w : WatchLists) : Type 0 where
  pub watched : w.watched ≡ v.watched
  pub watches : w.watches ≡ v.watches
  pub assertions : w.assertions ≡ v.assertions
  pub learnt : w.learnt ≡ v.learnt
  pub units_done : w.units_done ≡ v.units_done
  pub pending : w.pending ≡ v.pending

-- the literal is not false by what was propagated
abbrev pub IsAhead : SatState → Signed → Type 0
IsAhead s l = has (made_true (before s.tracker.trail s.qhead)) (negation l) ≡ false

-- the literal is not false by what was propagated, or the other one is true
abbrev pub MayWatch : SatState → Signed → Signed → Type 0
MayWatch s l m = IsAhead s l ⊎ (has (made_true (history s)) m ≡ true)

-- the level of the other literal is among the guards' levels, where it is true and this one false
pub record GuardsBy (l m : Signed) (old new : SatState) : Type 0 where
  pub same : new ≡ record old { guard_level = new.guard_level }
  pub higher : old.guard_level ≤ new.guard_level
  pub guard : has (made_true (history old)) m ≡ true → (k : ℕ) → IsTrueAt (history old) (negation l) k → IsGuard new.guard_level k (history old) m

-- each false one of the two is guarded as far as the trail was propagated; or nothing changed
abbrev pub IsKept : WatchedLiterals → SatState → SatState → Bool → Type 0
IsKept p old new true = Extends old new × (new.qhead ≡ old.qhead) × GuardsTo new.guard_level (before new.tracker.trail new.qhead) (history new) p
IsKept p old new false = new ≡ old

-- the clauses among these that watch something are guarded so
abbrev pub AreGuarded : SatState → WatchLists → List ClauseId → Type 0
AreGuarded s w cs = (n : ℕ) (p : WatchedLiterals) → pair_at w.watched.items n ≡ Some p → 0 < count n cs → GuardsTo s.guard_level (before s.tracker.trail s.qhead) (history s) p

-- the clause is guarded so, where it watches something; or nothing changed
abbrev pub IsSettled : ℕ → WatchLists → SatState → SatState → Bool → Type 0
IsSettled n w old new true = Extends old new × (new.qhead ≡ old.qhead) × ((p : WatchedLiterals) → pair_at w.watched.items n ≡ Some p → GuardsTo new.guard_level (before new.tracker.trail new.qhead) (history new) p)
IsSettled n w old new false = new ≡ old

-- guards' levels alone may have changed, and each pending clause is guarded so where this is true
pub record AreSettled (w : WatchLists) (old new : SatState) (b : Bool) : Type 0 where
  pub extends : Extends old new
  pub qhead : new.qhead ≡ old.qhead
  pub guarded : b ≡ true → AreGuarded new w w.pending.items

-- no clause is pending any longer
pub record Settles (old new : SatState) (v w : WatchLists) : Type 0 where
  pub watching : SameWatching v w
  pub ready : IsReady new w
  pub extends : Extends old new
  pub within : AreWithin new.qhead w
  pub settled : (n : ℕ) → IsPending n w → ⊥

-- what pending clauses force was assigned; or one of them is falsified
abbrev pub IsPendingVisit : SatState → SatState → WatchLists → WatchLists → Option ClauseId → Type 0
IsPendingVisit old new v w None = Proceeds old new v w
IsPendingVisit old new v w (Some n) = Conflicts n.0 old new v w
