-- The decision queue: what is known of the registered clauses, and of the hot packages.
use Rattle.std.specs.Prelude.{◌≡◌, ℕ, ◌≤◌, false, List, []}
use Rattle.resolvo_store_core.specs.Trail.{EachOnce}
use Rattle.resolvo_store_core.specs.declared.decision.Entry.{Entry}
use Rattle.resolvo_store_core.specs.declared.pick.NeedClause.{NeedClause}
use Rattle.resolvo_store_core.specs.declared.lists.FixedLists.{FixedLists}
use Rattle.resolvo_decide.specs.declared.decide_queue.DecideQueue.{DecideQueue}
use Rattle.resolvo_decide.specs.CandidateCounts.{HasNoCount}
use Rattle.resolvo_decide.specs.Needs.{literals_in, Fits}
use Rattle.resolvo_decide.specs.Cold.{HasColdBits, IsKnownHot}

-- the registered clauses, by position
abbrev pub needs_of : {N : Type 0} → DecideQueue N → List NeedClause
needs_of q = q.registered.items

-- no clause is registered, nothing of the trail was seen, and no package is hot
pub record IsNew {N : Type 0} (q : DecideQueue N) : Type 0 where
  pub registered : needs_of q ≡ []
  pub states : q.undecided.states ≡ []
  pub seen : q.undecided.seen.items ≡ []
  pub counts : HasNoCount q.undecided.counts
  pub most : q.most ≡ 0
  pub warm : q.cold.warm.items ≡ []
  pub known : q.cold.is_known ≡ false

-- what is known of the registered clauses is so under the trail that was seen, and the cold ones are cold
pub record IsSound {N : Type 0} (lists : FixedLists N) (q : DecideQueue N) : Type 0 where
  pub fits : Fits (literals_in lists) q.undecided (needs_of q)
  pub cold : HasColdBits lists q.cold (needs_of q)

-- all of the trail was seen, and nothing else; no variable is in it twice
pub record IsSynced {N : Type 0} (q : DecideQueue N) (trail : List Entry) : Type 0 where
  pub seen : q.undecided.seen.items ≡ trail
  pub once : EachOnce trail

-- no score is above the bound, and the packages that are known as hot are those with one above 0
pub record IsHotBound {N : Type 0} (score : N → ℕ) (q : DecideQueue N) : Type 0 where
  pub bounded : (name : N) → score name ≤ q.most
  pub known : IsKnownHot score q.cold

-- what was known of the registered clauses is so still
abbrev pub KeepsSound : {N : Type 0} → DecideQueue N → DecideQueue N → Type 0
KeepsSound {N} old new = (lists : FixedLists N) → IsSound lists old → IsSound lists new
