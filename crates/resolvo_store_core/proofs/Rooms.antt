-- Lemmas on the literals that clauses can move to without a refusal, and on clauses that can begin to watch so.
use Rattle.std.proofs.Common.{◌≡◌, ℕ, ◌+◌, ◌*◌, ◌<◌, ◌≤◌, Bool, true, false, cond, List, [], ◌∷◌, ◌++◌, take, drop, length, get_or, Option, Some, None, refl, sym, ◌∙◌, ap, subst, arith}
use Rattle.std.proofs.lemmas.List.{take_more}
use Rattle.resolvo_pool_core.specs.declared.id.ClauseId.{ClauseId}
use Rattle.resolvo_store_core.specs.Signed.{Signed, index_in}
use Rattle.resolvo_store_core.specs.declared.watched_literals.WatchedLiterals.{WatchedLiterals}
use Rattle.resolvo_store_core.specs.declared.watch_map.WatchMap.{WatchMap}
use Rattle.resolvo_store_core.specs.Watches.{watchers, HasPlace, HasRoom, HasRoomFor, KeepsRoom, IsReadyFor, IsWatched}
use Rattle.resolvo_store_core.specs.Walk.{first_target}
use Rattle.resolvo_store_core.proofs.WatchLemmas.{free_past}

-- no list was lost
pub kept_room : (old new : WatchMap) (os : List (Option Signed)) → ((l : Signed) → HasPlace old l → HasPlace new l) → HasRoom old os → HasRoom new os
kept_room old new [] more h = record {}
kept_room old new (None ∷ os) more h = kept_room old new os more h
kept_room old new (Some l ∷ os) more h = (more l h.0, kept_room old new os more h.1)

-- one literal more
room_more : (w : WatchMap) (os : List (Option Signed)) (o : Option Signed) → HasRoom w os → ((l : Signed) → o ≡ Some l → HasPlace w l) → HasRoom w (os ++ o ∷ [])
room_more w [] None h k = record {}
room_more w [] (Some l) h k = (k l refl, record {})
room_more w (None ∷ os) o h k = room_more w os o h k
room_more w (Some l ∷ os) o h k = (h.0, room_more w os o h.1 k)

-- the first of the literals, where there is one
pub first_has_room : (w : WatchMap) (os : List (Option Signed)) (l : Signed) → HasRoom w os → Some l ≡ first_target os → HasPlace w l
first_has_room w [] l h e = cc
first_has_room w (None ∷ os) l h e = cc
first_has_room w (Some m ∷ os) l h e =
    let same : m ≡ l = cc in
    subst (λ (x : Signed). HasPlace w x) same h.0

-- the remaining literals
pub rest_has_room : (old new : WatchMap) (os : List (Option Signed)) → ((l : Signed) → HasPlace old l → HasPlace new l) → HasRoom old os → HasRoom new (drop 1 os)
rest_has_room old new [] more h = record {}
rest_has_room old new (None ∷ os) more h = kept_room old new os more h
rest_has_room old new (Some l ∷ os) more h = kept_room old new os more h.1

-- one literal more of a list
pub room_one_more : (i : ℕ) (old new : WatchMap) (os : List (Option Signed)) (o : Option Signed) → i < length os → o ≡ get_or os i o → HasRoom old (take i os) → ((l : Signed) → HasPlace old l → HasPlace new l) → ((l : Signed) → o ≡ Some l → HasPlace new l) → HasRoom new (take (i + 1) os)
room_one_more i old new os o within at h more here =
    subst (λ (xs : List (Option Signed)). HasRoom new xs) (sym (take_more os i o within ∙ ap (λ (x : Option Signed). take i os ++ x ∷ []) (sym at)))
    (room_more new (take i os) o (kept_room old new (take i os) more h) here)

-- ---- clauses that begin to watch

place_within : (l : Signed) (variables : ℕ) → l.variable.0 < variables → index_in l < variables * 2
place_within l variables low = go l.positive
  where
    go : (b : Bool) → cond b (l.variable.0 * 2) (l.variable.0 * 2 + 1) < variables * 2
    go true = omega arith
    go false = omega arith

-- the clause of the next number, where there is room for it
pub next_ready : (m : WatchMap) (pairs : List (Option WatchedLiterals)) (p : WatchedLiterals) (c : ClauseId) (variables : ℕ) → IsWatched pairs (watchers m) → c.0 ≡ length pairs → p.first.variable.0 < variables → p.second.variable.0 < variables → HasRoomFor variables (length pairs + 1) m → IsReadyFor m p c
next_ready m pairs p c variables fit number first second room =
    let lists : variables * 2 ≤ length m.firsts.items = room.lists in
    let links : (length pairs + 1) * 2 ≤ length m.nexts.items = room.links in
    let one : index_in p.first < variables * 2 = place_within p.first variables first in
    let two : index_in p.second < variables * 2 = place_within p.second variables second in
    record {
      first = omega arith;
      second = omega arith;
      link = free_past m pairs (c.0 * 2) fit (omega arith) (omega arith);
      beside = free_past m pairs (c.0 * 2 + 1) fit (omega arith) (omega arith);
    }

-- room for as many clauses, or for fewer
pub room_kept : (old new : WatchMap) (variables some all : ℕ) → some ≤ all → HasRoomFor variables all old → KeepsRoom old new → HasRoomFor variables some new
room_kept old new variables some all fewer room same =
    let lists : variables * 2 ≤ length old.firsts.items = room.lists in
    let links : all * 2 ≤ length old.nexts.items = room.links in
    let lists' : length new.firsts.items ≡ length old.firsts.items = same.lists in
    let links' : length new.nexts.items ≡ length old.nexts.items = same.links in
    record { lists = omega arith; links = omega arith }
