-- The store after each kind of call.
use Rattle.std.specs.Prelude.{ℕ, ◌+◌, ◌*◌, ◌/◌, ◌==◌, nat_lt, min, cond, Bool, false, List, [], ◌∷◌, ◌++◌, length, map, Option, Some, None, Vec}
use Rattle.std.specs.Option.{option_map}
use Rattle.std.specs.List.{flat_map}
use Rattle.std.specs.declared.alloc.Global.{Global}
use Rattle.resolvo_pool_core.specs.declared.id.ClauseId.{ClauseId}
use Rattle.resolvo_pool_core.specs.declared.id.VariableId.{VariableId}
use Rattle.resolvo_pool_core.specs.declared.requirement.Requirement.{Requirement}
use Rattle.resolvo_pool_core.specs.declared.requirement.Requirement.TheVariants.{Single, Union}
use Rattle.resolvo_store_core.specs.Signed.{Signed}
use Rattle.resolvo_store_core.specs.Clauses.{yes}
use Rattle.resolvo_store_core.specs.Pairs.{watches}
use Rattle.resolvo_store_core.specs.Trail.{value_in, last_level}
use Rattle.resolvo_store_core.specs.AddPairs.{set_for, entered}
use Rattle.resolvo_store_core.specs.Walk.{pairs_after, lists_after}
use Rattle.resolvo_store.specs.Stored.{Stored}
use Rattle.resolvo_store_core.specs.declared.store_clause.Clause.{Clause}
use Rattle.resolvo_store_core.specs.declared.lists.Candidate.{Candidate}
use Rattle.resolvo_store_core.specs.declared.decision.Decision.{Decision}
use Rattle.resolvo_store_core.specs.declared.decision.Entry.{Entry}
use Rattle.resolvo_store_core.specs.declared.pick.NeedClause.{NeedClause}
use Rattle.resolvo_store_core.specs.declared.watched_literals.WatchedLiterals.{WatchedLiterals}

-- ---- lists

abbrev pub same_requirement : Requirement → Requirement → Bool
same_requirement (Single v) (Single w) = v.0 == w.0
same_requirement (Single v) (Union u) = false
same_requirement (Union u) (Single v) = false
same_requirement (Union u) (Union w) = u.0 == w.0

-- the versions of a package as candidates
abbrev pub versions_of : {N : Type 0} → N → List VariableId → List (Candidate N)
versions_of p vs = map (λ v. record { literal = yes v; «package» = p }) vs

-- the versions of packages as candidates, package by package
abbrev pub candidates_from : {N : Type 0} → List (N × Vec VariableId Global) → List (Candidate N)
candidates_from groups = flat_map (λ g. versions_of g.0 g.1.items) groups

abbrev pub with_candidates : {N : Type 0} → Requirement → List (Candidate N) → Stored N → Stored N
with_candidates r cs s = record s { candidates = λ q. cond (same_requirement r q) (Some cs) (s.candidates q) }

abbrev pub with_disjunction : {N : Type 0} → List Signed → Stored N → Stored N
with_disjunction ls s = record s { disjunctions = s.disjunctions ++ ls ∷ [] }

abbrev pub with_learnt : {N : Type 0} → List Signed → Stored N → Stored N
with_learnt ls s = record s { learnt = s.learnt ++ ls ∷ [] }

-- ---- clauses

-- the clause of this number is first in the lists of its two watched literals, if it has any
abbrev pub with_watcher : ℕ → Option WatchedLiterals → (Signed → List ClauseId) → Signed → List ClauseId
with_watcher c w view l = cond (watches w l) (record { 0 = c } ∷ view l) (view l)

abbrev pub with_clause : {N : Type 0} → Clause N → Option WatchedLiterals → Stored N → Stored N
with_clause c w s = record s { clauses = s.clauses ++ c ∷ []; watched = s.watched ++ w ∷ []; watchers = with_watcher (length s.clauses) w s.watchers }

abbrev pub with_need : {N : Type 0} → NeedClause → Stored N → Stored N
with_need r s = record s { needs = s.needs ++ r ∷ [] }

-- the clauses that watch the literal were visited in turn, each with its move
abbrev pub walked : {N : Type 0} → Signed → List (Option Signed) → Stored N → Stored N
walked l moves s = record s { watched = pairs_after l s.watched (s.watchers l) moves; watchers = lists_after l s.watched (s.watchers l) moves s.watchers }

-- ---- the trail

-- the assignment is appended to the trail, unless its variable has a value
abbrev pub with_decision : {N : Type 0} → Decision → ℕ → Stored N → Stored N
with_decision d level s = record s { trail = entered (set_for d.value (value_in s.trail d.variable.0)) (record { decision = d; level = level }) s.trail }

abbrev pub all_but_last : List Entry → List Entry
all_but_last [] = []
all_but_last (e ∷ []) = []
all_but_last (e ∷ d ∷ es) = e ∷ all_but_last (d ∷ es)

abbrev pub last_entry : List Entry → Option Entry
last_entry [] = None
last_entry (e ∷ []) = Some e
last_entry (e ∷ d ∷ es) = last_entry (d ∷ es)

-- the last assignment with the level of the entry before it, if the trail isn't empty
abbrev pub last_undone : List Entry → Option (Decision × ℕ)
last_undone es = option_map (λ e. (e.decision, last_level (all_but_last es))) (last_entry es)

abbrev pub undone : {N : Type 0} → Stored N → Stored N
undone s = record s { trail = all_but_last s.trail }

-- an entry with those left behind it; it is removed where none is left and it is above the level
abbrev pub unless_above : ℕ → Entry → List Entry → List Entry
unless_above level e [] = cond (nat_lt level e.level) [] (e ∷ [])
unless_above level e (d ∷ es) = e ∷ d ∷ es

-- the entries up to the last one that is not above the level
abbrev pub down_to : ℕ → List Entry → List Entry
down_to level [] = []
down_to level (e ∷ es) = unless_above level e (down_to level es)

abbrev pub undone_until : {N : Type 0} → ℕ → Stored N → Stored N
undone_until level s = record s { trail = down_to level s.trail }

-- ---- scores

-- the highest score
abbrev pub highest : ℕ
highest = 18446744073709551615

-- the package's score is bumped, to the highest number at most
abbrev pub bumped : {N : Type 0} → (N → N → Bool) → N → ℕ → Stored N → Stored N
bumped eq n add s = record s { score = λ m. cond (eq n m) (min (s.score n + add) highest) (s.score m) }

-- each score decays to this number of millionths, rounded down
abbrev pub decayed : {N : Type 0} → ℕ → Stored N → Stored N
decayed per_million s = record s { score = λ m. (s.score m * per_million) / 1000000 }
