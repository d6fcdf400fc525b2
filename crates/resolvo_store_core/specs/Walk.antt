-- A walk over the clauses that watch a literal.
use Rattle.std.specs.Prelude.{◌≡◌, ℕ, ◌==◌, not, List, [], ◌∷◌, ◌++◌, drop, slice_set, Option, Some, None, cond}
use Rattle.std.specs.List.{filter}
use Rattle.resolvo_pool_core.specs.declared.id.ClauseId.{ClauseId}
use Rattle.resolvo_store_core.specs.Signed.{Signed, same_literal}
use Rattle.resolvo_store_core.specs.Pairs.{watches, moved_pair}
use Rattle.resolvo_store_core.specs.declared.watched_literals.WatchedLiterals.{WatchedLiterals}
use Rattle.resolvo_store_core.specs.Watches.{pair_at, IsWatched}

-- the literal to watch in the place of another, unless it is watched already
abbrev pub new_watch : Option WatchedLiterals → Option Signed → Option Signed
new_watch p None = None
new_watch p (Some to) = cond (watches p to) None (Some to)

abbrev pub first_target : List (Option Signed) → Option Signed
first_target [] = None
first_target (o ∷ os) = o

-- the watched literals of the clause after its visit with this new literal
abbrev pub with_watch : Signed → Option WatchedLiterals → Option Signed → Option WatchedLiterals
with_watch from p None = p
with_watch from None (Some to) = None
with_watch from (Some p) (Some to) = Some (moved_pair p from to)

-- the watched literals after these clauses were visited in turn, the i-th with the i-th literal
abbrev pub pairs_after : Signed → List (Option WatchedLiterals) → List ClauseId → List (Option Signed) → List (Option WatchedLiterals)
pairs_after from pairs [] moves = pairs
pairs_after from pairs (c ∷ cs) moves = pairs_after from (slice_set pairs c.0 (with_watch from (pair_at pairs c.0) (new_watch (pair_at pairs c.0) (first_target moves)))) cs (drop 1 moves)

-- the list without the clause of this number
abbrev pub without : ℕ → List ClauseId → List ClauseId
without c xs = filter (λ x. not (c == x.0)) xs

-- the lists after the clause, if it moves, was moved from the one list to the start of the other
abbrev pub moved_view : Signed → ClauseId → Option Signed → (Signed → List ClauseId) → Signed → List ClauseId
moved_view from c None view l = view l
moved_view from c (Some to) view l = cond (same_literal from l) (without c.0 (view l)) (cond (same_literal to l) (c ∷ view l) (view l))

-- the lists once these clauses were met in turn, the i-th with the i-th literal
abbrev pub lists_after : Signed → List (Option WatchedLiterals) → List ClauseId → List (Option Signed) → (Signed → List ClauseId) → Signed → List ClauseId
lists_after from pairs [] moves view = view
lists_after from pairs (c ∷ cs) moves view =
    lists_after from (slice_set pairs c.0 (with_watch from (pair_at pairs c.0) (new_watch (pair_at pairs c.0) (first_target moves)))) cs (drop 1 moves) (moved_view from c (new_watch (pair_at pairs c.0) (first_target moves)) view)

-- the walk met these clauses, and the ones from the place on are left
pub record IsWalking (from : Signed) (met : List ClauseId) (moves : List (Option Signed)) (pairs : List (Option WatchedLiterals)) (view : Signed → List ClauseId) (place : ℕ) (now_moves : List (Option Signed)) (now_pairs : List (Option WatchedLiterals)) (now_view : Signed → List ClauseId) : Type 0 where
  pub fit : IsWatched now_pairs now_view
  pub split : view from ≡ met ++ drop place (now_view from)
  pub left : pairs_after from pairs (view from) moves ≡ pairs_after from now_pairs (drop place (now_view from)) now_moves
  pub lists : (l : Signed) → lists_after from pairs (view from) moves view l ≡ lists_after from now_pairs (drop place (now_view from)) now_moves now_view l
