-- A clause store as plain lists and functions.
use Rattle.std.specs.Prelude.{◌≡◌, ℕ, ◌≤◌, false, List, [], ◌∷◌, Option, Some, None, slice_get}
use Rattle.std.specs.Option.{unwrap_or}
use Rattle.resolvo_pool_core.specs.declared.id.ClauseId.{ClauseId}
use Rattle.resolvo_pool_core.specs.declared.id.DenseId.{DenseId}
use Rattle.resolvo_pool_core.specs.declared.id.DisjunctionTag.{DisjunctionTag}
use Rattle.resolvo_pool_core.specs.declared.requirement.Requirement.{Requirement}
use Rattle.resolvo_pool_core.specs.ByRequirement.{slot_of}
use Rattle.resolvo_store_core.specs.Signed.{Signed}
use Rattle.resolvo_store_core.specs.Lists.{Named}
use Rattle.resolvo_store_core.specs.declared.store_clause.Clause.{Clause}
use Rattle.resolvo_store_core.specs.declared.store_clause.Clause.TheVariants.{InstallRoot}
use Rattle.resolvo_store_core.specs.declared.lists.Candidate.{Candidate}
use Rattle.resolvo_store_core.specs.declared.lists.FixedLists.{FixedLists}
use Rattle.resolvo_store_core.specs.declared.decision.Entry.{Entry}
use Rattle.resolvo_store_core.specs.declared.pick.NeedClause.{NeedClause}
use Rattle.resolvo_store_core.specs.declared.watched_literals.WatchedLiterals.{WatchedLiterals}
use Rattle.resolvo_store_core.specs.declared.watch_map.WatchMap.{WatchMap}
use Rattle.resolvo_store_core.specs.Watches.{watchers}
use Rattle.resolvo_store_core.specs.Trail.{Tracked, IsSeenOf}
use Rattle.resolvo_decide.specs.declared.decide_queue.DecideQueue.{DecideQueue}
use Rattle.resolvo_decide.specs.Queue.{IsSound}

-- the lists that clauses name; clauses, watched literals, watch lists, trail, need clauses, scores
pub record Stored (N : Type 0) : Type 0 where
  pub candidates : Requirement → Option (List (Candidate N))
  pub disjunctions : List (List Signed)
  pub learnt : List (List Signed)
  pub clauses : List (Clause N)
  pub watched : List (Option WatchedLiterals)
  pub watchers : Signed → List ClauseId
  pub trail : List Entry
  pub needs : List NeedClause
  pub score : N → ℕ

-- the stores are equal: equal lists, and functions that agree everywhere
pub record Like {N : Type 0} (s t : Stored N) : Type 0 where
  pub candidates : (r : Requirement) → s.candidates r ≡ t.candidates r
  pub disjunctions : s.disjunctions ≡ t.disjunctions
  pub learnt : s.learnt ≡ t.learnt
  pub clauses : s.clauses ≡ t.clauses
  pub watched : s.watched ≡ t.watched
  pub watchers : (l : Signed) → s.watchers l ≡ t.watchers l
  pub trail : s.trail ≡ t.trail
  pub needs : s.needs ≡ t.needs
  pub score : (n : N) → s.score n ≡ t.score n

-- a store of the root's clause alone
abbrev pub new_store : {N : Type 0} → Stored N
new_store = record {
  candidates = λ r. None;
  disjunctions = [];
  learnt = [];
  clauses = InstallRoot ∷ [];
  watched = None ∷ [];
  watchers = λ l. [];
  trail = [];
  needs = [];
  score = λ n. 0;
}

-- the literals of a condition's case, if there is a condition
abbrev pub condition_among : List (List Signed) → Option (DenseId DisjunctionTag ℕ) → List Signed
condition_among ds None = []
condition_among ds (Some d) = unwrap_or (slice_get ds d.raw) []

-- the lists of ids in the store
abbrev pub names_in : {N : Type 0} → Stored N → Named N
names_in s = record {
  candidates = λ r. unwrap_or (s.candidates r) [];
  condition = condition_among s.disjunctions;
  learnt = λ l. unwrap_or (slice_get s.learnt l.raw) [];
}

-- the fields of a clause store
pub record Kept (N S : Type 0) : Type 0 where
  pub lists : FixedLists N
  pub clauses : List (Clause N)
  pub watched : List (Option WatchedLiterals)
  pub watches : WatchMap
  pub trail : List Entry
  pub needs : List NeedClause
  pub scores : S

-- the fields as plain lists
abbrev pub plain : {N S : Type 0} → (S → N → ℕ) → Kept N S → Stored N
plain score_of k = record {
  candidates = λ r. slot_of k.lists.candidates r;
  disjunctions = k.lists.disjunctions;
  learnt = k.lists.learnt;
  clauses = k.clauses;
  watched = k.watched;
  watchers = watchers k.watches;
  trail = k.trail;
  needs = k.needs;
  score = score_of k.scores;
}

-- what the store's queue knows of its clauses and of the trail is so, and no score is above the bound. It doesn't know the hot packages
pub record IsQueueOf {N : Type 0} (lists : FixedLists N) (t : Tracked) (score : N → ℕ) (q : DecideQueue N) : Type 0 where
  pub sound : IsSound lists q
  pub seen : IsSeenOf t q.undecided.seen.items
  pub hot : (name : N) → score name ≤ q.most
  pub unknown : q.cold.is_known ≡ false

-- the store is the old one after this change
abbrev pub Becomes : {N S : Type 0} → (S → N → ℕ) → (Stored N → Stored N) → Kept N S → Kept N S → Type 0
Becomes score_of change old new = Like (plain score_of new) (change (plain score_of old))

-- the store is the old one
abbrev pub Stays : {N S : Type 0} → (S → N → ℕ) → Kept N S → Kept N S → Type 0
Stays score_of old new = Like (plain score_of new) (plain score_of old)
