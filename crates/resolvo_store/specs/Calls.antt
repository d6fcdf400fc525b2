-- The answers to calls of a clause store, and the store after them: one call, or a list of calls.
use Rattle.std.specs.Prelude.{◌≡◌, ℕ, ◌&&◌, nat_lt, not, cond, is_some, Bool, true, List, [], ◌∷◌, length, take, slice_get, Option, Some, None, Vec}
use Rattle.std.specs.List.{list_all}
use Rattle.std.specs.declared.alloc.Global.{Global}
use Rattle.resolvo_pool_core.specs.declared.id.ClauseId.{ClauseId}
use Rattle.resolvo_pool_core.specs.declared.id.DenseId.{DenseId}
use Rattle.resolvo_pool_core.specs.declared.id.DisjunctionTag.{DisjunctionTag}
use Rattle.resolvo_pool_core.specs.declared.id.LearntClauseTag.{LearntClauseTag}
use Rattle.resolvo_pool_core.specs.declared.id.VariableId.{VariableId}
use Rattle.resolvo_pool_core.specs.declared.requirement.Requirement.{Requirement}
use Rattle.resolvo_pool_core.specs.declared.want.Want.{Want}
use Rattle.resolvo_pool_core.specs.declared.want.Want.TheVariants as want
use Rattle.resolvo_pool_core.specs.ByRequirement.{index_in}
use Rattle.resolvo_store_core.specs.Signed.{Signed, same_literal, has}
use Rattle.resolvo_store_core.specs.Trail.{value_in, last_level}
use Rattle.resolvo_store_core.specs.AddPairs.{set_for}
use Rattle.resolvo_store_core.specs.Clauses.{is_in_range, is_own_in_range, lists_exist, literals_by}
use Rattle.resolvo_store_core.specs.Pick.{first_broken_by, pick_by}
use Rattle.resolvo_store.specs.Stored.{Stored, Like, names_in}
use Rattle.resolvo_store.specs.Changes.{candidates_from, with_candidates, with_disjunction, with_learnt, with_clause, with_need, with_decision, undone, last_undone, undone_until, bumped, decayed, walked}
use Rattle.resolvo_store_core.specs.declared.store_clause.Clause.{Clause}
use Rattle.resolvo_store_core.specs.declared.decision.Decision.{Decision}
use Rattle.resolvo_store_core.specs.declared.decision_tracker.Set.{Set}
use Rattle.resolvo_store_core.specs.declared.pick.NeedClause.{NeedClause}
use Rattle.resolvo_store_core.specs.declared.pick.NextDecision.{NextDecision}
use Rattle.resolvo_store_core.specs.declared.watched_literals.WatchedLiterals.{WatchedLiterals}
use Rattle.resolvo_store.specs.declared.store_call.StoreCall.{StoreCall}
use Rattle.resolvo_store.specs.declared.store_call.StoreCall.TheVariants as call
use Rattle.resolvo_store.specs.declared.store_call.StoreAnswer.{StoreAnswer}
use Rattle.resolvo_store.specs.declared.store_call.StoreAnswer.TheVariants as answer

-- ---- conditions

-- the requirement has no candidates yet, and literals can be made of the new ones
abbrev pub can_fix : {N : Type 0} → Stored N → Requirement → List (N × Vec VariableId Global) → Bool
can_fix s r groups = not (is_some (s.candidates r)) && list_all (λ g. list_all is_in_range g.1.items) groups

-- the condition's case exists, if there is a condition
abbrev pub has_condition : {N : Type 0} → Stored N → Option (DenseId DisjunctionTag ℕ) → Bool
has_condition s None = true
has_condition s (Some d) = nat_lt d.raw (length s.disjunctions)

abbrev pub has_candidates_for : {N : Type 0} → Stored N → Requirement → Bool
has_candidates_for s r = is_some (s.candidates r)

abbrev pub has_clause : {N : Type 0} → Stored N → ClauseId → Bool
has_clause s c = nat_lt c.0 (length s.clauses)

abbrev pub has_learnt_in : {N : Type 0} → Stored N → DenseId LearntClauseTag ℕ → Bool
has_learnt_in s l = nat_lt l.raw (length s.learnt)

-- the watched literals, if any, are two different ones of the clause
abbrev pub can_watch : List Signed → Option WatchedLiterals → Bool
can_watch literals None = true
can_watch literals (Some p) = has literals p.first && (has literals p.second && not (same_literal p.first p.second))

-- the lists that the clause names exist, and it watches literals of its own
abbrev pub can_add : {N : Type 0} → Stored N → Clause N → Option WatchedLiterals → Bool
can_add s c w = is_own_in_range c && (lists_exist (has_condition s) (has_candidates_for s) (has_learnt_in s) c && can_watch (literals_by (names_in s) c) w)

-- the lists that the need clause names exist
abbrev pub can_register : {N : Type 0} → Stored N → NeedClause → Bool
can_register s r = has_clause s r.clause && (has_candidates_for s r.requirement && has_condition s r.condition)

-- the clause exists, and the level isn't below the last entry's
abbrev pub can_assign : {N : Type 0} → Stored N → ClauseId → ℕ → Bool
can_assign s c level = has_clause s c && not (nat_lt level (last_level s.trail))

abbrev pub can_decay : ℕ → Bool
can_decay per_million = not (nat_lt 1000000 per_million)

-- ---- one call

-- an answer, with plain lists
pub data PlainAnswer : Type 0 where
  Done : PlainAnswer
  Added : ClauseId → PlainAnswer
  Became : Set → PlainAnswer
  Undone : Option (Decision × ℕ) → PlainAnswer
  Met : List ClauseId → PlainAnswer
  Falsified : Option ClauseId → PlainAnswer
  Next : Option NextDecision → PlainAnswer
  Broken : ClauseId → PlainAnswer
  Bad : PlainAnswer

abbrev pub plain_answer : StoreAnswer → PlainAnswer
plain_answer answer.Done = Done
plain_answer (answer.Added c) = Added c
plain_answer (answer.Set s) = Became s
plain_answer (answer.Undone d) = Undone d
plain_answer (answer.Met cs) = Met cs.items
plain_answer (answer.Falsified c) = Falsified c
plain_answer (answer.Next d) = Next d
plain_answer (answer.Broken c) = Broken c
plain_answer answer.Bad = Bad

-- the first falsified registered clause
abbrev pub broken_in : {N : Type 0} → Stored N → Option ClauseId
broken_in s = first_broken_by (names_in s) (value_in s.trail) s.needs

-- the pick of the registered clauses
abbrev pub picked_in : {N : Type 0} → Stored N → Option NextDecision
picked_in s = pick_by (names_in s) (value_in s.trail) s.score s.needs

-- the broken clause, if there is one, in place of the decision
abbrev pub broken_or_next : Option ClauseId → Option NextDecision → PlainAnswer
broken_or_next None d = Next d
broken_or_next (Some c) d = Broken c

-- the condition of a call
abbrev pub may : {N : Type 0} → Stored N → StoreCall N → Bool
may s (call.FixCandidates r groups) = can_fix s r groups.items
may s (call.FixDisjunction ls) = true
may s (call.FixLearnt ls) = true
may s (call.AddClause c w) = can_add s c w
may s (call.Register p r d c) = can_register s (record { parent = p; requirement = r; condition = d; clause = c })
may s (call.Assign v b c level) = can_assign s c level
may s call.UndoLast = true
may s (call.UndoUntil level) = true
may s (call.BumpName n add) = true
may s (call.Decay p) = can_decay p
may s (call.Walk l moves) = true
may s call.Falsified = true
may s call.NextDecision = true

-- the answer to a call whose condition holds
abbrev pub answer_to : {N : Type 0} → Stored N → StoreCall N → PlainAnswer
answer_to s (call.FixCandidates r groups) = Done
answer_to s (call.FixDisjunction ls) = Done
answer_to s (call.FixLearnt ls) = Done
answer_to s (call.AddClause c w) = Added (record { 0 = length s.clauses })
answer_to s (call.Register p r d c) = Done
answer_to s (call.Assign v b c level) = Became (set_for b (value_in s.trail v.0))
answer_to s call.UndoLast = Undone (last_undone s.trail)
answer_to s (call.UndoUntil level) = Done
answer_to s (call.BumpName n add) = Done
answer_to s (call.Decay p) = Done
answer_to s (call.Walk l moves) = Met (s.watchers l)
answer_to s call.Falsified = Falsified (broken_in s)
answer_to s call.NextDecision = broken_or_next (broken_in s) (picked_in s)

-- a call whose condition doesn't hold is answered `Bad`
abbrev pub answer_of : {N : Type 0} → Stored N → StoreCall N → PlainAnswer
answer_of s c = cond (may s c) (answer_to s c) Bad

module _ {N : Type 0} (eq : N → N → Bool) where
  -- the store after a call whose condition holds
  abbrev pub changed_by : Stored N → StoreCall N → Stored N
  changed_by s (call.FixCandidates r groups) = with_candidates r (candidates_from groups.items) s
  changed_by s (call.FixDisjunction ls) = with_disjunction ls.items s
  changed_by s (call.FixLearnt ls) = with_learnt ls.items s
  changed_by s (call.AddClause c w) = with_clause c w s
  changed_by s (call.Register p r d c) = with_need (record { parent = p; requirement = r; condition = d; clause = c }) s
  changed_by s (call.Assign v b c level) = with_decision (record { variable = v; value = b; derived_from = c }) level s
  changed_by s call.UndoLast = undone s
  changed_by s (call.UndoUntil level) = undone_until level s
  changed_by s (call.BumpName n add) = bumped eq n add s
  changed_by s (call.Decay p) = decayed p s
  changed_by s (call.Walk l moves) = walked l moves.items s
  changed_by s call.Falsified = s
  changed_by s call.NextDecision = s

  -- the store after any call; a call answered `Bad` changes nothing
  abbrev pub step : Stored N → StoreCall N → Stored N
  step s c = cond (may s c) (changed_by s c) s

  -- ---- any list of calls

  abbrev pub after : Stored N → List (StoreCall N) → Stored N
  after s [] = s
  after s (c ∷ cs) = after (step s c) cs

  abbrev pub answers_of : Stored N → List (StoreCall N) → List PlainAnswer
  answers_of s [] = []
  answers_of s (c ∷ cs) = answer_of s c ∷ answers_of (step s c) cs

-- the call needs an id, and all ids are used
abbrev pub LacksNumber : {N : Type 0} → Stored N → StoreCall N → Type 0
LacksNumber s (call.FixCandidates r groups) = index_in r ≡ 4294967295
LacksNumber s (call.FixDisjunction ls) = length s.disjunctions ≡ 4294967295
LacksNumber s (call.FixLearnt ls) = length s.learnt ≡ 4294967295
LacksNumber s (call.AddClause c w) = length s.clauses ≡ 4294967295
LacksNumber s (call.Register p r d c) = ⊥
LacksNumber s (call.Assign v b c level) = ⊥
LacksNumber s call.UndoLast = ⊥
LacksNumber s (call.UndoUntil level) = ⊥
LacksNumber s (call.BumpName n add) = ⊥
LacksNumber s (call.Decay p) = ⊥
LacksNumber s (call.Walk l moves) = ⊥
LacksNumber s call.Falsified = ⊥
LacksNumber s call.NextDecision = ⊥

-- some call was refused: the store is that before it, and ids were lacking only where all were used
pub record StopsAt {N : Type 0} (eq : N → N → Bool) (calls : List (StoreCall N)) (old new : Stored N) (w : Want) : Type 0 where
  pub place : ℕ
  pub call : StoreCall N
  pub refused : slice_get calls place ≡ Some call
  pub store : Like new (after eq old (take place calls))
  pub ids : w ≡ want.Ids → LacksNumber (after eq old (take place calls)) call
