-- The states of the need clauses under a trail.
use Rattle.std.specs.Prelude.{◌≡◌, ℕ, ⊤, Bool, true, false, List, [], ◌∷◌, ◌++◌, ◌<◌, ◌≤◌, take, length, slice_get, slice_index_or, Option, Some, Contains}
use Rattle.std.specs.List.{list_any}
use Rattle.resolvo_pool_core.specs.declared.id.VariableId.{VariableId}
use Rattle.resolvo_pool_core.specs.declared.requirement.Requirement.{Requirement}
use Rattle.resolvo_pool_core.specs.Slots.{at}
use Rattle.resolvo_store_core.specs.Signed.{Signed, value_under, is_true}
use Rattle.resolvo_store_core.specs.Clauses.{candidate_literals}
use Rattle.resolvo_store_core.specs.Lists.{candidates_in}
use Rattle.resolvo_store_core.specs.Pick.{pick, offer}
use Rattle.resolvo_store_core.specs.Trail.{assigned, value_in}
use Rattle.resolvo_store_core.specs.Values.{value_at}
use Rattle.resolvo_store_core.specs.declared.decision.Entry.{Entry}
use Rattle.resolvo_store_core.specs.declared.pick.NeedClause.{NeedClause}
use Rattle.resolvo_store_core.specs.declared.pick.NextDecision.{NextDecision}
use Rattle.resolvo_store_core.specs.declared.decision_map.Assignment.{Assignment}
use Rattle.resolvo_store_core.specs.declared.lists.FixedLists.{FixedLists}
use Rattle.resolvo_decide.specs.declared.clauses_by_parent.ClausesByParent.{ClausesByParent}
use Rattle.resolvo_decide.specs.declared.clause_states.ClauseState.{ClauseState}
use Rattle.resolvo_decide.specs.declared.clause_states.ClauseState.TheVariants.{Open, Satisfied, Inactive}
use Rattle.resolvo_decide.specs.declared.undecided_clauses.UndecidedClauses.{UndecidedClauses}
use Rattle.resolvo_decide.specs.declared.candidate_counts.CandidateCounts.{CandidateCounts}
use Rattle.resolvo_decide.specs.States.{state_at}
use Rattle.resolvo_decide.specs.Links.{IsLinked}
use Rattle.resolvo_decide.specs.CandidateCounts.{IsRightCount, AreBelow, Begins, number_at}

-- the literals of a requirement's candidates
abbrev pub literals_in : {N : Type 0} → FixedLists N → Requirement → List Signed
literals_in lists r = candidate_literals (candidates_in lists r)

-- one of the literals is true under the entries
abbrev pub is_met : List Entry → List Signed → Bool
is_met es literals = list_any (λ l. is_true (value_under (value_in es) l)) literals

-- the clause at the position is one of the parent's
abbrev pub IsClauseOf : ClausesByParent → ℕ → ℕ → Type 0
IsClauseOf all v i = IsLinked all.links.items (slice_index_or all.last.items v 0) i

-- the state is satisfied within so many entries, or open
abbrev pub IsMetNow : ℕ → ClauseState → Type 0
IsMetNow count Open = ⊤
IsMetNow count (Satisfied within) = within ≡ count
IsMetNow count Inactive = ⊥

-- the state of the clause is right under the trail, where requirements have these literals
abbrev pub IsSoundState : (Requirement → List Signed) → List Entry → NeedClause → ClauseState → Type 0
IsSoundState literals trail q Open = ⊤
IsSoundState literals trail q (Satisfied within) = is_met (take within trail) (literals q.requirement) ≡ true
IsSoundState literals trail q Inactive = is_true (value_in trail q.parent.0) ≡ false

-- each clause has a count of its own, and that of each clause of the queue is right under the trail
pub record AreRightCounts (literals : Requirement → List Signed) (queue : List NeedClause) (trail : List Entry) (all : CandidateCounts) : Type 0 where
  pub each : (i : ℕ) (q : NeedClause) (k : ℕ) → slice_get queue i ≡ Some q → number_at all.count_states.items i ≡ Some k → IsRightCount (literals q.requirement) trail all k
  pub within : (i k : ℕ) → number_at all.count_states.items i ≡ Some k → k < length all.counts.items
  pub apart : (i j k : ℕ) → number_at all.count_states.items i ≡ Some k → number_at all.count_states.items j ≡ Some k → i ≡ j
  pub below : AreBelow (length all.counts.items) all.occurrences.items

-- the state and the count of each clause of the queue are right, and the clauses of each parent are listed
pub record Fits (literals : Requirement → List Signed) (needs : UndecidedClauses) (queue : List NeedClause) : Type 0 where
  pub count : length needs.states ≡ length queue
  pub each : (i : ℕ) (q : NeedClause) → slice_get queue i ≡ Some q → IsSoundState literals needs.seen.items q (state_at needs.states i)
  pub placed : (i : ℕ) (q : NeedClause) → slice_get queue i ≡ Some q → IsClauseOf needs.by_parent q.parent.0 i
  pub kept_count : AreRightCounts literals queue needs.seen.items needs.counts

-- the new states fit each queue that the old ones fit
abbrev pub KeepsFits : UndecidedClauses → UndecidedClauses → Type 0
KeepsFits old new = (literals : Requirement → List Signed) (queue : List NeedClause) → Fits literals old queue → Fits literals new queue

-- the new states fit each queue with this clause at the position that the old ones fit
abbrev pub KeepsFitsAt : (Requirement → List Signed) → ℕ → NeedClause → UndecidedClauses → UndecidedClauses → Type 0
KeepsFitsAt literals position q old new = (queue : List NeedClause) → slice_get queue position ≡ Some q → Fits literals old queue → Fits literals new queue

-- a clause of this parent was added
pub record AddsNeed (parent : VariableId) (old new : UndecidedClauses) : Type 0 where
  pub states : new.states ≡ old.states ++ Open ∷ []
  pub seen : new.seen ≡ old.seen
  pub placed : IsClauseOf new.by_parent parent.0 (length old.states)
  pub kept : (v i : ℕ) → IsClauseOf old.by_parent v i → IsClauseOf new.by_parent v i
  pub counts : Begins (length old.states) old.counts new.counts

-- the counts stay right as the trail changes from the one to the other
abbrev pub KeepsCounts : List Entry → List Entry → CandidateCounts → CandidateCounts → Type 0
KeepsCounts before after old new = (literals : Requirement → List Signed) (queue : List NeedClause) → AreRightCounts literals queue before old → AreRightCounts literals queue after new

-- so they do where the values are the trail's, and these the literals of the clause at the position
abbrev pub KeepsCounted : List Entry → (ℕ → Option Bool) → ℕ → List Signed → CandidateCounts → CandidateCounts → Type 0
KeepsCounted trail values position ls old new = ((v : ℕ) → values v ≡ value_in trail v) → (literals : Requirement → List Signed) (queue : List NeedClause)
    → ((q : NeedClause) → slice_get queue position ≡ Some q → literals q.requirement ≡ ls) → AreRightCounts literals queue trail old → AreRightCounts literals queue trail new

-- the count of the clause at the position, if it has one, is right
abbrev pub IsRightCountAt : (Requirement → List Signed) → UndecidedClauses → ℕ → NeedClause → Type 0
IsRightCountAt literals needs position q = (k : ℕ) → number_at needs.counts.count_states.items position ≡ Some k → IsRightCount (literals q.requirement) needs.seen.items needs.counts k

-- each decision that a clause of the queue offers has at least so many undecided candidates
abbrev pub OffersAtLeast : {N : Type 0} → FixedLists N → (ℕ → Option Bool) → List NeedClause → ℕ → Type 0
OffersAtLeast {N} lists values queue fewest = (score : N → ℕ) (q : NeedClause) (d : NextDecision) → Contains queue q → offer lists values score q ≡ Some d → fewest ≤ d.candidate_count

-- so it is under the trail's values, as a map has them
abbrev pub LeavesUndecided : {N : Type 0} → FixedLists N → List Entry → List NeedClause → ℕ → Type 0
LeavesUndecided lists trail queue fewest = (values : List (Option Assignment)) → ((v : ℕ) → at values v ≡ assigned trail v) → OffersAtLeast lists (value_at values) queue fewest

-- the pick under the trail's values, as a map has them
pub record IsPick {N : Type 0} (lists : FixedLists N) (trail : List Entry) (score : N → ℕ) (queue : List NeedClause) (next : Option NextDecision) : Type 0 where
  pub values : List (Option Assignment)
  pub agree : (v : ℕ) → at values v ≡ assigned trail v
  pub picked : pick lists (value_at values) score queue ≡ next
