-- Stores that are alike have alike answers, and stay alike.
use Rattle.std.proofs.Common.{◌≡◌, ℕ, ◌+◌, ◌*◌, ◌/◌, ◌&&◌, min, not, cond, nat_lt, Bool, true, false, List, [], ◌∷◌, ◌++◌, length, Option, Some, None, is_some, refl, ◌∙◌, ap}
use Rattle.std.specs.List.{list_all}
use Rattle.std.specs.Option.{unwrap_or}
use Rattle.std.specs.Prelude.{slice_get}
use Rattle.resolvo_pool_core.specs.declared.id.ClauseId.{ClauseId}
use Rattle.resolvo_pool_core.specs.declared.id.DenseId.{DenseId}
use Rattle.resolvo_pool_core.specs.declared.id.DisjunctionTag.{DisjunctionTag}
use Rattle.resolvo_pool_core.specs.declared.requirement.Requirement.{Requirement}
use Rattle.resolvo_store_core.specs.Signed.{Signed}
use Rattle.resolvo_store_core.specs.Trail.{value_in, last_level}
use Rattle.resolvo_store_core.specs.AddPairs.{set_for, entered}
use Rattle.resolvo_store_core.specs.Clauses.{is_in_range, is_own_in_range, lists_exist, literals_by}
use Rattle.resolvo_store_core.specs.Pairs.{watches}
use Rattle.resolvo_store_core.specs.Walk.{pairs_after, lists_after}
use Rattle.resolvo_store_core.specs.Pick.{first_broken_by, pick_by}
use Rattle.resolvo_store.specs.Stored.{Stored, Like, names_in, condition_among}
use Rattle.resolvo_store.specs.Changes.{candidates_from, same_requirement, all_but_last, last_undone, down_to, with_watcher, highest}
use Rattle.resolvo_store.specs.Calls.{PlainAnswer, Became, Undone, Met, Falsified, Bad, Added, has_condition, has_candidates_for, has_learnt_in, has_clause, can_watch, can_add, can_register, can_assign, may, answer_to, changed_by, step, answer_of, after, answers_of, broken_in, picked_in, broken_or_next}
use Rattle.resolvo_store_core.specs.declared.decision.Entry.{Entry}
use Rattle.resolvo_store_core.specs.declared.pick.NeedClause.{NeedClause}
use Rattle.resolvo_store_core.specs.declared.pick.NextDecision.{NextDecision}
use Rattle.resolvo_store_core.specs.declared.store_clause.Clause.{Clause}
use Rattle.resolvo_store_core.specs.declared.watched_literals.WatchedLiterals.{WatchedLiterals}
use Rattle.resolvo_store.specs.declared.store_call.StoreCall.{StoreCall}
use Rattle.resolvo_store.specs.declared.store_call.StoreCall.TheVariants as call
use Rattle.resolvo_store.proofs.Picks.{SameNames, first_broken_same, pick_same}
use Rattle.resolvo_store.proofs.FitLemmas.{literals_same, exist_same}
use Rattle.resolvo_store_core.proofs.Walks.{lists_after_same}

pub like_trans : {N : Type 0} (s t u : Stored N) → Like s t → Like t u → Like s u
like_trans s t u a b = record {
  candidates = λ r. a.candidates r ∙ b.candidates r;
  disjunctions = a.disjunctions ∙ b.disjunctions;
  learnt = a.learnt ∙ b.learnt;
  clauses = a.clauses ∙ b.clauses;
  watched = a.watched ∙ b.watched;
  watchers = λ l. a.watchers l ∙ b.watchers l;
  trail = a.trail ∙ b.trail;
  needs = a.needs ∙ b.needs;
  score = λ n. a.score n ∙ b.score n;
}

module _ {N : Type 0} (s t : Stored N) (like : Like s t) where
  names_like : SameNames (names_in s) (names_in t)
  names_like = record {
    candidates = λ r. ap (λ o. unwrap_or o []) (like.candidates r);
    condition = λ d. ap (λ ds. condition_among ds d) like.disjunctions;
    learnt = λ l. ap (λ ls. unwrap_or (slice_get ls l.raw) []) like.learnt;
  }

  condition_like : (d : Option (DenseId DisjunctionTag ℕ)) → has_condition s d ≡ has_condition t d
  condition_like None = refl
  condition_like (Some d) = ap (λ (ds : List (List Signed)). nat_lt d.raw (length ds)) like.disjunctions

  clause_like : (c : ClauseId) → has_clause s c ≡ has_clause t c
  clause_like c = ap (λ (cs : List (Clause N)). nat_lt c.0 (length cs)) like.clauses

  values_like : (i : ℕ) → value_in s.trail i ≡ value_in t.trail i
  values_like i = ap (λ (es : List Entry). value_in es i) like.trail

  add_like : (c : Clause N) (w : Option WatchedLiterals) → can_add s c w ≡ can_add t c w
  add_like c w = ap (λ b. is_own_in_range c && b)
      (ap (λ b. b && can_watch (literals_by (names_in s) c) w) (exist_same (has_condition s) (has_condition t) (has_candidates_for s) (has_candidates_for t) (has_learnt_in s) (has_learnt_in t) condition_like (λ r. ap is_some (like.candidates r)) (λ l. ap (λ (ls : List (List Signed)). nat_lt l.raw (length ls)) like.learnt) c)
      ∙ ap (λ ls. lists_exist (has_condition t) (has_candidates_for t) (has_learnt_in t) c && can_watch ls w) (literals_same (names_in s) (names_in t) names_like c))

  register_like : (r : NeedClause) → can_register s r ≡ can_register t r
  register_like r = ap (λ b. b && (has_candidates_for s r.requirement && has_condition s r.condition)) (clause_like r.clause)
      ∙ ap (λ o. has_clause t r.clause && (is_some o && has_condition s r.condition)) (like.candidates r.requirement)
      ∙ ap (λ b. has_clause t r.clause && (has_candidates_for t r.requirement && b)) (condition_like r.condition)

  assign_like : (c : ClauseId) (level : ℕ) → can_assign s c level ≡ can_assign t c level
  assign_like c level = ap (λ b. b && not (nat_lt level (last_level s.trail))) (clause_like c) ∙ ap (λ (es : List Entry). has_clause t c && not (nat_lt level (last_level es))) like.trail

  broken_like : broken_in s ≡ broken_in t
  broken_like = first_broken_same (names_in s) (names_in t) (value_in s.trail) (value_in t.trail) names_like values_like s.needs ∙ ap (λ rs. first_broken_by (names_in t) (value_in t.trail) rs) like.needs

  picked_like : picked_in s ≡ picked_in t
  picked_like = pick_same (names_in s) (names_in t) (value_in s.trail) (value_in t.trail) names_like values_like s.score t.score like.score s.needs ∙ ap (λ rs. pick_by (names_in t) (value_in t.trail) t.score rs) like.needs

  pub may_like : (c : StoreCall N) → may s c ≡ may t c
  may_like (call.FixCandidates r groups) = ap (λ o. not (is_some o) && list_all (λ g. list_all is_in_range g.1.items) groups.items) (like.candidates r)
  may_like (call.FixDisjunction ls) = refl
  may_like (call.FixLearnt ls) = refl
  may_like (call.AddClause c w) = add_like c w
  may_like (call.Register p r d c) = register_like (record { parent = p; requirement = r; condition = d; clause = c })
  may_like (call.Assign v b c level) = assign_like c level
  may_like call.UndoLast = refl
  may_like (call.UndoUntil level) = refl
  may_like (call.BumpName n add) = refl
  may_like (call.Decay p) = refl
  may_like (call.Walk l moves) = refl
  may_like call.Falsified = refl
  may_like call.NextDecision = refl

  answer_to_like : (c : StoreCall N) → answer_to s c ≡ answer_to t c
  answer_to_like (call.FixCandidates r groups) = refl
  answer_to_like (call.FixDisjunction ls) = refl
  answer_to_like (call.FixLearnt ls) = refl
  answer_to_like (call.AddClause c w) = ap (λ (cs : List (Clause N)). Added (record { 0 = length cs })) like.clauses
  answer_to_like (call.Register p r d c) = refl
  answer_to_like (call.Assign v b c level) = ap (λ (es : List Entry). Became (set_for b (value_in es v.0))) like.trail
  answer_to_like call.UndoLast = ap (λ (es : List Entry). Undone (last_undone es)) like.trail
  answer_to_like (call.UndoUntil level) = refl
  answer_to_like (call.BumpName n add) = refl
  answer_to_like (call.Decay p) = refl
  answer_to_like (call.Walk l moves) = ap Met (like.watchers l)
  answer_to_like call.Falsified = ap Falsified broken_like
  answer_to_like call.NextDecision = ap (λ (o : Option ClauseId). broken_or_next o (picked_in s)) broken_like ∙ ap (λ (o : Option NextDecision). broken_or_next (broken_in t) o) picked_like

  pub answer_like : (c : StoreCall N) → answer_of s c ≡ answer_of t c
  answer_like c = ap (λ b. cond b (answer_to s c) Bad) (may_like c) ∙ ap (λ (a : PlainAnswer). cond (may t c) a Bad) (answer_to_like c)

  module _ (eq : N → N → Bool) where
    candidates_change : (r : Requirement) (cs : List _) (q : Requirement) → cond (same_requirement r q) (Some cs) (s.candidates q) ≡ cond (same_requirement r q) (Some cs) (t.candidates q)
    candidates_change r cs q = ap (λ o. cond (same_requirement r q) (Some cs) o) (like.candidates q)

    with_watcher_change : (w : Option WatchedLiterals) (l : Signed) → with_watcher (length s.clauses) w s.watchers l ≡ with_watcher (length t.clauses) w t.watchers l
    with_watcher_change w l = ap (λ (cs : List (Clause N)). with_watcher (length cs) w s.watchers l) like.clauses ∙ ap (λ xs. cond (watches w l) (record { 0 = length t.clauses } ∷ xs) xs) (like.watchers l)

    score_change : (n : N) (add : ℕ) (m : N) → cond (eq n m) (min (s.score n + add) highest) (s.score m) ≡ cond (eq n m) (min (t.score n + add) highest) (t.score m)
    score_change n add m = ap (λ (k : ℕ). cond (eq n m) (min (k + add) highest) (s.score m)) (like.score n) ∙ ap (λ (k : ℕ). cond (eq n m) (min (t.score n + add) highest) k) (like.score m)

    pairs_change : (l : Signed) (moves : List (Option Signed)) → pairs_after l s.watched (s.watchers l) moves ≡ pairs_after l t.watched (t.watchers l) moves
    pairs_change l moves = ap (λ ws. pairs_after l ws (s.watchers l) moves) like.watched ∙ ap (λ cs. pairs_after l t.watched cs moves) (like.watchers l)

    lists_change : (l : Signed) (moves : List (Option Signed)) (m : Signed) → lists_after l s.watched (s.watchers l) moves s.watchers m ≡ lists_after l t.watched (t.watchers l) moves t.watchers m
    lists_change l moves m = ap (λ ws. lists_after l ws (s.watchers l) moves s.watchers m) like.watched ∙ ap (λ cs. lists_after l t.watched cs moves s.watchers m) (like.watchers l)
        ∙ lists_after_same l t.watched (t.watchers l) moves t.watchers s.watchers like.watchers m

    changed_like : (c : StoreCall N) → Like (changed_by eq s c) (changed_by eq t c)
    changed_like (call.FixCandidates r groups) = record { candidates = candidates_change r (candidates_from groups.items); disjunctions = like.disjunctions; learnt = like.learnt; clauses = like.clauses; watched = like.watched; watchers = like.watchers; trail = like.trail; needs = like.needs; score = like.score }
    changed_like (call.FixDisjunction ls) = record { candidates = like.candidates; disjunctions = ap (λ ds. ds ++ ls.items ∷ []) like.disjunctions; learnt = like.learnt; clauses = like.clauses; watched = like.watched; watchers = like.watchers; trail = like.trail; needs = like.needs; score = like.score }
    changed_like (call.FixLearnt ls) = record { candidates = like.candidates; disjunctions = like.disjunctions; learnt = ap (λ ds. ds ++ ls.items ∷ []) like.learnt; clauses = like.clauses; watched = like.watched; watchers = like.watchers; trail = like.trail; needs = like.needs; score = like.score }
    changed_like (call.AddClause c w) = record { candidates = like.candidates; disjunctions = like.disjunctions; learnt = like.learnt; clauses = ap (λ cs. cs ++ c ∷ []) like.clauses; watched = ap (λ ws. ws ++ w ∷ []) like.watched; watchers = with_watcher_change w; trail = like.trail; needs = like.needs; score = like.score }
    changed_like (call.Register p r d c) = record { candidates = like.candidates; disjunctions = like.disjunctions; learnt = like.learnt; clauses = like.clauses; watched = like.watched; watchers = like.watchers; trail = like.trail; needs = ap (λ rs. rs ++ record { parent = p; requirement = r; condition = d; clause = c } ∷ []) like.needs; score = like.score }
    changed_like (call.Assign v b c level) = record { candidates = like.candidates; disjunctions = like.disjunctions; learnt = like.learnt; clauses = like.clauses; watched = like.watched; watchers = like.watchers; trail = ap (λ (es : List Entry). entered (set_for b (value_in es v.0)) (record { decision = record { variable = v; value = b; derived_from = c }; level = level }) es) like.trail; needs = like.needs; score = like.score }
    changed_like call.UndoLast = record { candidates = like.candidates; disjunctions = like.disjunctions; learnt = like.learnt; clauses = like.clauses; watched = like.watched; watchers = like.watchers; trail = ap all_but_last like.trail; needs = like.needs; score = like.score }
    changed_like (call.UndoUntil level) = record { candidates = like.candidates; disjunctions = like.disjunctions; learnt = like.learnt; clauses = like.clauses; watched = like.watched; watchers = like.watchers; trail = ap (down_to level) like.trail; needs = like.needs; score = like.score }
    changed_like (call.BumpName n add) = record { candidates = like.candidates; disjunctions = like.disjunctions; learnt = like.learnt; clauses = like.clauses; watched = like.watched; watchers = like.watchers; trail = like.trail; needs = like.needs; score = score_change n add }
    changed_like (call.Decay p) = record { candidates = like.candidates; disjunctions = like.disjunctions; learnt = like.learnt; clauses = like.clauses; watched = like.watched; watchers = like.watchers; trail = like.trail; needs = like.needs; score = λ n. ap (λ (k : ℕ). (k * p) / 1000000) (like.score n) }
    changed_like (call.Walk l moves) = record { candidates = like.candidates; disjunctions = like.disjunctions; learnt = like.learnt; clauses = like.clauses; watched = pairs_change l moves.items; watchers = lists_change l moves.items; trail = like.trail; needs = like.needs; score = like.score }
    changed_like call.Falsified = like
    changed_like call.NextDecision = like

    pub step_like : (c : StoreCall N) → Like (step eq s c) (step eq t c)
    step_like c = go (may s c) (may t c) (may_like c)
      where
        go : (a b : Bool) → a ≡ b → Like (cond a (changed_by eq s c) s) (cond b (changed_by eq t c) t)
        go true true e = changed_like c
        go true false e = cc
        go false true e = cc
        go false false e = like

-- one call more
pub after_more : {N : Type 0} (eq : N → N → Bool) (s : Stored N) (cs : List (StoreCall N)) (c : StoreCall N) → after eq s (cs ++ c ∷ []) ≡ step eq (after eq s cs) c
after_more eq s [] c = refl
after_more eq s (d ∷ cs) c = after_more eq (step eq s d) cs c

pub answers_more : {N : Type 0} (eq : N → N → Bool) (s : Stored N) (cs : List (StoreCall N)) (c : StoreCall N) → answers_of eq s (cs ++ c ∷ []) ≡ answers_of eq s cs ++ answer_of (after eq s cs) c ∷ []
answers_more eq s [] c = refl
answers_more eq s (d ∷ cs) c = ap (λ xs. answer_of s d ∷ xs) (answers_more eq (step eq s d) cs c)
