-- The clauses that watch a literal.
use Rattle.std.specs.Prelude.{◌≡◌, ℕ, suc, ◌+◌, ◌*◌, ◌<◌, ◌≤◌, ◌==◌, ⊤, Bool, true, false, not, nat_eq, List, [], ◌∷◌, ◌++◌, take, drop, slice_set, slice_get, slice_index_or, length, Option, Some, None}
use Rattle.std.specs.List.{count_by}
use Rattle.resolvo_pool_core.specs.declared.id.ClauseId.{ClauseId}
use Rattle.resolvo_store_core.specs.Signed.{Signed, same_literal, index_in}
use Rattle.resolvo_store_core.specs.Pairs.{watches, moved_pair}
use Rattle.resolvo_store_core.specs.declared.watched_literals.WatchedLiterals.{WatchedLiterals}
use Rattle.resolvo_store_core.specs.declared.watch_map.WatchMap.{WatchMap}
use Rattle.resolvo_store_core.specs.declared.watch_map.WatchMapCursor.{WatchMapCursor}
use Rattle.resolvo_store_core.specs.Links.{list_in, watchers_in, IsPlaced, IsUnlinked, KeepsLinks}

-- the numbers of the links in the literal's list, the latest first
abbrev pub links : WatchMap → Signed → List ℕ
links m l = list_in m.firsts.items m.nexts.items (index_in l)

-- the clauses that watch the literal, the latest first
abbrev pub watchers : WatchMap → Signed → List ClauseId
watchers m = watchers_in m.firsts.items m.nexts.items

-- clauses can move to the literal without a refusal
abbrev pub HasPlace : WatchMap → Signed → Type 0
HasPlace m l = index_in l < length m.firsts.items

-- clauses can move to each of the literals
abbrev pub HasRoom : WatchMap → List (Option Signed) → Type 0
HasRoom m [] = ⊤
HasRoom m (None ∷ os) = HasRoom m os
HasRoom m (Some l ∷ os) = HasPlace m l × HasRoom m os

-- how many literals some clause watches
abbrev pub watched_count : WatchMap → ℕ
watched_count m = count_by (λ n. not (n == 0)) m.firsts.items

-- the link is there, and in no list
abbrev pub IsFreeLink : WatchMap → ℕ → Type 0
IsFreeLink m n = IsUnlinked m.firsts.items m.nexts.items n

-- both literals have their lists, and the clause its two links, which are in no list
pub record IsReadyFor (m : WatchMap) (p : WatchedLiterals) (c : ClauseId) : Type 0 where
  pub first : HasPlace m p.first
  pub second : HasPlace m p.second
  pub link : IsFreeLink m (c.0 * 2)
  pub beside : IsFreeLink m (c.0 * 2 + 1)

-- as many lists and links are made as before
pub record KeepsRoom (old new : WatchMap) : Type 0 where
  pub lists : length new.firsts.items ≡ length old.firsts.items
  pub links : length new.nexts.items ≡ length old.nexts.items

-- the lists of the literals of so many variables are made, and the links of so many clauses
pub record HasRoomFor (variables clauses : ℕ) (m : WatchMap) : Type 0 where
  pub lists : variables * 2 ≤ length m.firsts.items
  pub links : clauses * 2 ≤ length m.nexts.items

-- all links are in the lists as before
abbrev pub SameLinks : WatchMap → WatchMap → Type 0
SameLinks old new = KeepsLinks old.firsts.items old.nexts.items new.firsts.items new.nexts.items

-- the cursor has the link at its place of the map's list, and the one before it
abbrev pub IsAt : WatchMap → WatchMapCursor → Type 0
IsAt m k = IsPlaced (links m k.literal) k.place k.current k.before

-- the watched literals of the clause of this number, if any
abbrev pub pair_at : List (Option WatchedLiterals) → ℕ → Option WatchedLiterals
pair_at ps n = slice_index_or ps n None

abbrev pub one_if : Bool → ℕ
one_if true = 1
one_if false = 0

-- how often the list holds the clause of this number
abbrev pub count : ℕ → List ClauseId → ℕ
count c [] = 0
count c (x ∷ xs) = one_if (nat_eq c x.0) + count c xs

-- each clause is once in the list of each of its two literals, which differ, and in no other
pub record IsWatched (pairs : List (Option WatchedLiterals)) (view : Signed → List ClauseId) : Type 0 where
  pub once : (l : Signed) (c : ℕ) → count c (view l) ≡ one_if (watches (pair_at pairs c) l)
  pub differ : (c : ℕ) (p : WatchedLiterals) → pair_at pairs c ≡ Some p → same_literal p.first p.second ≡ false

-- the clause was inserted first into the list
pub record PutsFirst (c : ClauseId) (l : Signed) (old new : Signed → List ClauseId) : Type 0 where
  pub put : new l ≡ c ∷ old l
  pub others : (m : Signed) → same_literal l m ≡ false → new m ≡ old m

-- the clause at the place was taken out of the list
pub record TakesOut (l : Signed) (place : ℕ) (old new : Signed → List ClauseId) : Type 0 where
  pub taken : new l ≡ take place (old l) ++ drop (suc place) (old l)
  pub others : (m : Signed) → same_literal l m ≡ false → new m ≡ old m

-- the clause was inserted first into the lists of its two literals
pub record StartsIn (c : ClauseId) (p : WatchedLiterals) (old new : Signed → List ClauseId) : Type 0 where
  pub first : new p.first ≡ c ∷ old p.first
  pub second : new p.second ≡ c ∷ old p.second
  pub others : (l : Signed) → watches (Some p) l ≡ false → new l ≡ old l

-- the clause at the place was moved from the one list, to be the first of the other
pub record MovesIn (c : ClauseId) (from : Signed) (place : ℕ) (to : Signed) (old new : Signed → List ClauseId) : Type 0 where
  pub was_in : slice_get (old from) place ≡ Some c
  pub taken : new from ≡ take place (old from) ++ drop (suc place) (old from)
  pub put : new to ≡ c ∷ old to
  pub others : (l : Signed) → same_literal from l ≡ false → same_literal to l ≡ false → new l ≡ old l

-- the clause at the place of the one literal's list watches the other literal in its place
pub record Moves (from : Signed) (place : ℕ) (to : Signed) (old_pairs new_pairs : List (Option WatchedLiterals)) (old new : Signed → List ClauseId) : Type 0 where
  pub clause : ClauseId
  pub pair : WatchedLiterals
  pub watched : pair_at old_pairs clause.0 ≡ Some pair
  pub pairs : new_pairs ≡ slice_set old_pairs clause.0 (Some (moved_pair pair from to))
  pub lists : MovesIn clause from place to old new
  pub fit : IsWatched new_pairs new

-- no list changed
abbrev pub SameLists : (Signed → List ClauseId) → (Signed → List ClauseId) → Type 0
SameLists old new = (l : Signed) → new l ≡ old l
