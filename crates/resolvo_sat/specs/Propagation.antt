-- Unit propagation: walks over the clauses that watch false literals.
use Rattle.std.specs.Prelude.{◌≡◌, ℕ, ◌+◌, ◌<◌, ◌≤◌, ◌⊎◌, Bool, true, false, List, [], ◌∷◌, ◌++◌, take, drop, length, max, slice_get, Option, Some, None}
use Rattle.resolvo_pool_core.specs.declared.id.ClauseId.{ClauseId}
use Rattle.resolvo_store_core.specs.Signed.{Signed, negation, same_literal, has}
use Rattle.resolvo_store_core.specs.Clauses.{yes, root}
use Rattle.resolvo_store_core.specs.Pairs.{watches, other_of}
use Rattle.resolvo_store_core.specs.Watches.{watchers, pair_at, count, IsWatched, Moves}
use Rattle.resolvo_store_core.specs.declared.decision.Entry.{Entry}
use Rattle.resolvo_store_core.specs.declared.watched_literals.WatchedLiterals.{WatchedLiterals}
use Rattle.resolvo_sat.specs.declared.state.SatState.{SatState}
use Rattle.resolvo_sat.specs.declared.watch_lists.WatchLists.{WatchLists}
use Rattle.resolvo_sat.specs.declared.watch_lists.UnitClause.{UnitClause}
use Rattle.resolvo_sat.specs.declared.watch_lists.UnitsDone.{UnitsDone}
use Rattle.resolvo_sat.specs.declared.propagate.WatchVisit.{WatchVisit}
use Rattle.resolvo_sat.specs.Known.{IsFalseUnder, clause_at}
use Rattle.resolvo_sat.specs.Entries.{made_true, before, IsTrueAt}
use Rattle.resolvo_sat.specs.State.{history, clauses_of, IsState}
use Rattle.resolvo_sat.specs.Steps.{SameBut, KeepsChoices}

-- the watched literals are the clause's own
pub record IsOwnPair (clause : List Signed) (p : WatchedLiterals) : Type 0 where
  pub first : has clause p.first ≡ true
  pub second : has clause p.second ≡ true

-- the clause has this literal alone
pub record IsOnly (clause : List Signed) (l : Signed) : Type 0 where
  pub present : has clause l ≡ true
  pub alone : (m : Signed) → has clause m ≡ true → m ≡ l

abbrev pub HasUnit : List UnitClause → UnitClause → Type 0
HasUnit [] x = ⊥
HasUnit (y ∷ ys) x = (y ≡ x) ⊎ HasUnit ys x

-- each is a unit clause's note
abbrev pub AreUnits : List (List Signed) → List UnitClause → Type 0
AreUnits clauses [] = Unit {0}
AreUnits clauses (x ∷ xs) = (x.clause.0 < length clauses) × IsOnly (clause_at clauses x.clause.0) x.literal × AreUnits clauses xs

-- the clause was added beside a false literal, and is still to be visited
abbrev pub IsPending : ℕ → WatchLists → Type 0
IsPending n w = 0 < count n w.pending.items

-- the watches fit the clauses, whatever is true or false: a clause that watches something watches its own literals
pub record IsFit (s : SatState) (w : WatchLists) : Type 0 where
  pub fit : IsWatched w.watched.items (watchers w.watches)
  pub each : length w.watched.items ≡ length s.clauses
  pub own : (n : ℕ) (p : WatchedLiterals) → pair_at w.watched.items n ≡ Some p → IsOwnPair (clause_at (clauses_of s) n) p

-- where one of the two is false by the first literals, the other one is true
pub record Guards (fallen known : List Signed) (p : WatchedLiterals) : Type 0 where
  pub first : has fallen (negation p.first) ≡ true → has known p.second ≡ true
  pub second : has fallen (negation p.second) ≡ true → has known p.first ≡ true

-- the entries hold the literal, at this level or below, or else not above the guards' level
abbrev pub IsGuard : ℕ → ℕ → List Entry → Signed → Type 0
IsGuard g k all l = (j : ℕ) × (j ≤ max g k) × IsTrueAt all l j

-- where one of the two is false by the first entries, the other one guards it
pub record GuardsTo (g : ℕ) (fallen all : List Entry) (p : WatchedLiterals) : Type 0 where
  pub first : (k : ℕ) → IsTrueAt fallen (negation p.first) k → IsGuard g k all p.second
  pub second : (k : ℕ) → IsTrueAt fallen (negation p.second) k → IsGuard g k all p.first

-- the first k entries of the trail were walked: in each clause that isn't pending, where one of the two watched literals is
-- false by them, the other one is true and guards it
abbrev pub IsWalkedTo : ℕ → SatState → WatchLists → Type 0
IsWalkedTo k s w = (n : ℕ) (p : WatchedLiterals) → pair_at w.watched.items n ≡ Some p → (IsPending n w → ⊥) → GuardsTo s.guard_level (before s.tracker.trail k) (history s) p

-- the level of a true literal beside a false one is among the guards' levels now
pub record RecordsGuard (l m : Signed) (old new : SatState) : Type 0 where
  pub same : new ≡ record old { guard_level = new.guard_level }
  pub higher : old.guard_level ≤ new.guard_level
  pub guard : (k : ℕ) → IsTrueAt (history old) (negation l) k → IsGuard new.guard_level k (history old) m

-- the literals of these unit clauses are true
abbrev pub AllTrue : List Signed → List UnitClause → Type 0
AllTrue known [] = Unit {0}
AllTrue known (x ∷ xs) = (has known x.literal ≡ true) × AllTrue known xs

-- The note is of unit clauses that there are. They are true by so many first entries of the trail, if these are
-- propagated.
pub record IsDone (trail : List Entry) (qhead : ℕ) (assertions learnt : List UnitClause) (d : UnitsDone) : Type 0 where
  pub assertions_within : d.assertions ≤ length assertions
  pub learnt_within : d.learnt ≤ length learnt
  pub assertions_true : d.entries ≤ qhead → AllTrue (made_true (before trail d.entries)) (take d.assertions assertions)
  pub learnt_true : d.entries ≤ qhead → AllTrue (made_true (before trail d.entries)) (take d.learnt learnt)

-- each note holds, and a later one is of no fewer entries
pub record AreDone (s : SatState) (w : WatchLists) : Type 0 where
  pub each : (i : ℕ) (d : UnitsDone) → slice_get w.units_done.items i ≡ Some d → IsDone s.tracker.trail s.qhead w.assertions.items w.learnt.items d
  pub rising : (i j : ℕ) (c d : UnitsDone) → i ≤ j → slice_get w.units_done.items i ≡ Some c → slice_get w.units_done.items j ≡ Some d → c.entries ≤ d.entries

-- no note is of more entries than these
abbrev pub AreWithin : ℕ → WatchLists → Type 0
AreWithin k w = (i : ℕ) (d : UnitsDone) → slice_get w.units_done.items i ≡ Some d → d.entries ≤ k

-- the first unit clauses, so many, are true
pub record HasDone (s : SatState) (w : WatchLists) (d : UnitsDone) : Type 0 where
  pub assertions_within : d.assertions ≤ length w.assertions.items
  pub learnt_within : d.learnt ≤ length w.learnt.items
  pub assertions : AllTrue (made_true (history s)) (take d.assertions w.assertions.items)
  pub learnt : AllTrue (made_true (history s)) (take d.learnt w.learnt.items)

-- the invariant of the watches between calls: they fit the clauses, and the trail was walked up to
-- the propagation head; the unit clauses of which it is noted are true
pub record IsReady (s : SatState) (w : WatchLists) : Type 0 where
  pub state : IsState s
  pub fits : IsFit s w
  pub qhead : s.qhead ≤ length s.tracker.trail
  pub walked : IsWalkedTo s.qhead s w
  pub done : AreDone s w

-- the clause is listed as a unit clause
abbrev pub IsUnit : ℕ → WatchLists → Type 0
IsUnit n w = (x : UnitClause) × (x.clause.0 ≡ n) × (HasUnit w.assertions.items x ⊎ HasUnit w.learnt.items x)

-- a clause that watches nothing is the root's, which is the first, or is listed as a unit clause
pub record AreCovered (s : SatState) (w : WatchLists) : Type 0 where
  pub assertions : AreUnits (clauses_of s) w.assertions.items
  pub learnt : AreUnits (clauses_of s) w.learnt.items
  pub covered : (n : ℕ) → n < length s.clauses → pair_at w.watched.items n ≡ None → (n ≡ 0) ⊎ IsUnit n w
  pub first : has (clause_at (clauses_of s) 0) (yes root) ≡ true

-- each note of the one was there
abbrev pub KeepsNotes : WatchLists → WatchLists → Type 0
KeepsNotes v w = (i : ℕ) (d : UnitsDone) → slice_get w.units_done.items i ≡ Some d → slice_get v.units_done.items i ≡ Some d

-- No clause stopped watching, and none was added. What is pending was so, the unit clauses are the same, and nothing more is
-- noted of them.
pub record SameWatching (v w : WatchLists) : Type 0 where
  pub assertions : w.assertions ≡ v.assertions
  pub learnt : w.learnt ≡ v.learnt
  pub notes : KeepsNotes v w
  pub pairs : (n : ℕ) → pair_at w.watched.items n ≡ None → pair_at v.watched.items n ≡ None
  pub was_pending : (n : ℕ) → IsPending n w → IsPending n v

-- where one of the two is this literal, which is false, the other one guards it
pub record Passed (l : Signed) (g : ℕ) (all : List Entry) (p : WatchedLiterals) : Type 0 where
  pub first : p.first ≡ l → (k : ℕ) → IsTrueAt all (negation l) k → IsGuard g k all p.second
  pub second : p.second ≡ l → (k : ℕ) → IsTrueAt all (negation l) k → IsGuard g k all p.first

-- entries were added to the trail, none of them a choice
pub record Extends (old new : SatState) : Type 0 where
  pub state : IsState new
  pub same : SameBut old new
  pub more : List Entry
  pub added : new.tracker.trail ≡ old.tracker.trail ++ more
  pub choices : KeepsChoices (history old) (history new)
  pub guard : old.guard_level ≤ new.guard_level

-- the walk over the watch list of the literal, whose negation is entry k, is at this place
pub record IsVisiting (k : ℕ) (l : Signed) (place : ℕ) (old s : SatState) (v w : WatchLists) : Type 0 where
  pub fits : IsFit s w
  pub extends : Extends old s
  pub qhead : s.qhead ≡ old.qhead
  pub walked : IsWalkedTo k s w
  pub passed : (n : ℕ) (p : WatchedLiterals) → pair_at w.watched.items n ≡ Some p → count n (drop place (watchers w.watches l)) ≡ 0 → Passed l s.guard_level (history s) p
  pub entry : made_true (before s.tracker.trail (k + 1)) ≡ negation l ∷ made_true (before s.tracker.trail k)
  pub long : k < length s.tracker.trail
  pub watching : SameWatching v w

-- a literal of the clause that is not false and not watched, or there is none
abbrev pub IsFree : List Signed → List Signed → WatchedLiterals → Option Signed → Type 0
IsFree known clause p None = (m : Signed) → has clause m ≡ true → (watches (Some p) m ≡ true) ⊎ (has known (negation m) ≡ true)
IsFree known clause p (Some l) = (has clause l ≡ true) × (watches (Some p) l ≡ false) × (has known (negation l) ≡ false)

-- the clause's other watched literal is true, and guards the false one
pub record Keeps (l : Signed) (p : WatchedLiterals) (s t : SatState) (w x : WatchLists) : Type 0 where
  pub extends : Extends s t
  pub qhead : t.qhead ≡ s.qhead
  pub same_watching : x ≡ w
  pub guard : (k : ℕ) → IsTrueAt (history t) (negation l) k → IsGuard t.guard_level k (history t) (other_of p l)

-- the clause watches another literal, which is not false
pub record Replaces (l : Signed) (place n : ℕ) (s t : SatState) (w x : WatchLists) : Type 0 where
  pub same_state : t ≡ s
  pub to : Signed
  pub moves : Moves l place to w.watched.items x.watched.items (watchers w.watches) (watchers x.watches)
  pub assertions : x.assertions ≡ w.assertions
  pub learnt : x.learnt ≡ w.learnt
  pub units_done : x.units_done ≡ w.units_done
  pub pending : x.pending ≡ w.pending
  pub own : has (clause_at (clauses_of s) n) to ≡ true
  pub unwatched : watches (pair_at w.watched.items n) to ≡ false
  pub free : has (made_true (history s)) (negation to) ≡ false

-- all literals of the clause are false
pub record Falsifies (n : ℕ) (s t : SatState) (w x : WatchLists) : Type 0 where
  pub same_state : t ≡ s
  pub same_watching : x ≡ w
  pub falls : IsFalseUnder (made_true (history s)) (clause_at (clauses_of s) n)

-- the outcome of the visit to a clause
abbrev pub IsMeeting : Signed → ℕ → ℕ → WatchedLiterals → SatState → WatchLists → SatState → WatchLists → WatchVisit → Type 0
IsMeeting l place n p s w t x WatchVisit.Kept = Keeps l p s t w x
IsMeeting l place n p s w t x WatchVisit.Moved = Replaces l place n s t w x
IsMeeting l place n p s w t x WatchVisit.Falsified = Falsifies n s t w x

-- the clause is falsified
pub record IsFalsified (n : ℕ) (s : SatState) : Type 0 where
  pub in_range : n < length s.clauses
  pub falls : IsFalseUnder (made_true (history s)) (clause_at (clauses_of s) n)

-- the first k entries of the trail were walked, and the forced literals assigned
pub record Walked (k : ℕ) (old new : SatState) (v w : WatchLists) : Type 0 where
  pub watching : SameWatching v w
  pub fits : IsFit new w
  pub extends : Extends old new
  pub qhead : new.qhead ≡ old.qhead
  pub walked : IsWalkedTo k new w

-- a literal of the clause is true, or two different ones are not false
abbrev pub IsQuiet : List Signed → List Signed → Type 0
IsQuiet known clause = ((l : Signed) × (has clause l ≡ true) × (has known l ≡ true))
    ⊎ ((l : Signed) × (m : Signed) × (has clause l ≡ true) × (has clause m ≡ true) × (same_literal l m ≡ false) × (has known (negation l) ≡ false) × (has known (negation m) ≡ false))

-- propagation is complete: no clause is falsified or unit, all of the trail was walked, and no
-- clause is pending
pub record IsComplete (old new : SatState) (v w : WatchLists) : Type 0 where
  pub watching : SameWatching v w
  pub ready : IsReady new w
  pub extends : Extends old new
  pub qhead : new.qhead ≡ length new.tracker.trail
  pub settled : (n : ℕ) → IsPending n w → ⊥
  pub quiet : (n : ℕ) → n < length new.clauses → IsQuiet (made_true (history new)) (clause_at (clauses_of new) n)

-- propagation ended in a conflict: the clause is falsified
pub record Conflicts (n : ℕ) (old new : SatState) (v w : WatchLists) : Type 0 where
  pub watching : SameWatching v w
  pub ready : IsReady new w
  pub extends : Extends old new
  pub falsified : IsFalsified n new

-- a falsified clause, or the literal of the entry at the propagation head was walked over
abbrev pub IsVisit : SatState → SatState → WatchLists → WatchLists → Option ClauseId → Type 0
IsVisit old new v w None = Walked (old.qhead + 1) old new v w
IsVisit old new v w (Some n) = Conflicts n.0 old new v w

abbrev pub IsPropagation : SatState → SatState → WatchLists → WatchLists → Option ClauseId → Type 0
IsPropagation old new v w None = IsComplete old new v w
IsPropagation old new v w (Some n) = Conflicts n.0 old new v w

-- the literal is true, or false as it was
abbrev pub IsUnitAssigned : UnitClause → SatState → SatState → Bool → Type 0
IsUnitAssigned x old new true = Extends old new × (new.qhead ≡ old.qhead) × (has (made_true (history new)) x.literal ≡ true)
IsUnitAssigned x old new false = (new ≡ old) × (has (made_true (history old)) (negation x.literal) ≡ true)

-- the first singles' literals are true
pub record AssignsUnits (part : List UnitClause) (old new : SatState) : Type 0 where
  pub extends : Extends old new
  pub qhead : new.qhead ≡ old.qhead
  pub set : AllTrue (made_true (history new)) part

abbrev pub IsUnitsEnd : List UnitClause → SatState → SatState → Option ClauseId → Type 0
IsUnitsEnd units old new None = AssignsUnits units old new
IsUnitsEnd units old new (Some n) = Extends old new × (new.qhead ≡ old.qhead) × IsFalsified n.0 new

-- the entry of this place makes the literal false
pub record FellAt (l : Signed) (place : ℕ) (s : SatState) : Type 0 where
  pub in_range : place < length s.tracker.trail
  pub entry : made_true (before s.tracker.trail (place + 1)) ≡ negation l ∷ made_true (before s.tracker.trail place)

-- the literal that the entry of this place makes false; or there is no entry there
abbrev pub IsFallenAt : ℕ → SatState → Option Signed → Type 0
IsFallenAt place s None = length s.tracker.trail ≤ place
IsFallenAt place s (Some l) = FellAt l place s

-- all entries before this one are propagated, and no clause is pending
pub record Running (old s : SatState) (v w : WatchLists) : Type 0 where
  pub watching : SameWatching v w
  pub settled : (n : ℕ) → IsPending n w → ⊥
  pub fits : IsFit s w
  pub extends : Extends old s
  pub walked : IsWalkedTo s.qhead s w
  pub assertions : AllTrue (made_true (history s)) v.assertions.items
  pub learnt : AllTrue (made_true (history s)) v.learnt.items
  pub in_range : s.qhead ≤ length s.tracker.trail
  pub done : AreDone s w
  pub within : AreWithin s.qhead w

-- a falsified clause, or all entries are propagated
abbrev pub IsRun : SatState → SatState → WatchLists → WatchLists → Option ClauseId → Type 0
IsRun old new v w None = Running old new v w × (length new.tracker.trail ≤ new.qhead)
IsRun old new v w (Some n) = Conflicts n.0 old new v w
