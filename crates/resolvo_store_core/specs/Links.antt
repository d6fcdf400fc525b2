-- Lists that are linked through the table of a map.
use Rattle.std.specs.Prelude.{◌≡◌, ℕ, zero, suc, ◌/◌, ◌<◌, ◌≤◌, map, List, [], ◌∷◌, slice_get, slice_index_or, length, Option, Some, None}
use Rattle.resolvo_pool_core.specs.declared.id.ClauseId.{ClauseId}
use Rattle.resolvo_store_core.specs.Signed.{Signed, index_in}

-- the link that a number of the table names: 0 names none, any other the one before it
abbrev pub link_of : ℕ → Option ℕ
link_of zero = None
link_of (suc n) = Some n

-- the link that the table names at this place, if any
abbrev pub named_at : List ℕ → ℕ → Option ℕ
named_at table i = link_of (slice_index_or table i 0)

-- the clause of a link: a clause has two links, whose numbers are twice its own and one more
abbrev pub clause_of : ℕ → ClauseId
clause_of n = record { 0 = n / 2 }

-- the numbers of the links from one on, so many at most
abbrev pub chain : List ℕ → ℕ → Option ℕ → List ℕ
chain nexts zero o = []
chain nexts (suc k) None = []
chain nexts (suc k) (Some n) = n ∷ chain nexts k (named_at nexts n)

-- the numbers of the links in the list of this index
abbrev pub list_in : List ℕ → List ℕ → ℕ → List ℕ
list_in firsts nexts i = chain nexts (length nexts) (named_at firsts i)

-- the link before a place of the list, if there is one
abbrev pub before_in : List ℕ → ℕ → Option ℕ
before_in xs zero = None
before_in xs (suc place) = slice_get xs place

-- the clauses that watch the literal, the latest first
abbrev pub watchers_in : List ℕ → List ℕ → Signed → List ClauseId
watchers_in firsts nexts l = map clause_of (list_in firsts nexts (index_in l))

-- The lists are these: each begins with its first link, each link leads to the one behind it, and has one place in one
-- list.
pub record AreLists (firsts nexts : List ℕ) (lists : ℕ → List ℕ) : Type 0 where
  pub first : (i : ℕ) → named_at firsts i ≡ slice_get (lists i) 0
  pub next : (i a n : ℕ) → slice_get (lists i) a ≡ Some n → named_at nexts n ≡ slice_get (lists i) (suc a)
  pub in_range : (i a n : ℕ) → slice_get (lists i) a ≡ Some n → n < length nexts
  pub once : (i j a b n : ℕ) → slice_get (lists i) a ≡ Some n → slice_get (lists j) b ≡ Some n → (i ≡ j) × (a ≡ b)

-- no link is in two lists, or twice in one, so each list ends
abbrev pub AreLinked : List ℕ → List ℕ → Type 0
AreLinked firsts nexts = AreLists firsts nexts (list_in firsts nexts)

-- the link is at this place of the list, and the other one before it
pub record IsPlaced (xs : List ℕ) (place : ℕ) (link other : Option ℕ) : Type 0 where
  pub current : link ≡ slice_get xs place
  pub before : other ≡ before_in xs place

-- the link is there, and in no list
pub record IsUnlinked (firsts nexts : List ℕ) (n : ℕ) : Type 0 where
  pub in_range : n < length nexts
  pub free : (i a : ℕ) → slice_get (list_in firsts nexts i) a ≡ Some n → ⊥

-- all links are in the lists as before
pub record KeepsLinks (firsts nexts firsts' nexts' : List ℕ) : Type 0 where
  pub lists : (i : ℕ) → list_in firsts' nexts' i ≡ list_in firsts nexts i
  pub more : length nexts ≤ length nexts'
