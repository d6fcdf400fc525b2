-- A set of the solvables that kept candidates hint.
use Rattle.std.specs.Prelude.{◌≡◌, ◌&&◌, ◌⊎◌, Bool, true, List, Option}
use Rattle.resolvo_pool_core.specs.Provider.{Listing, listing_or_empty, hints}
use Rattle.resolvo_pool.specs.Cached.{among}

-- whether the solvable is among these, and of the package
abbrev pub among_own : {N S : Type 0} → (N → N → Bool) → (S → S → Bool) → (S → N) → N → List S → S → Bool
among_own same_name same name_of n xs s = among same xs s && same_name (name_of s) n

-- whether the package's candidates hint the solvable, and it is of the package
abbrev pub hints_own : {N S : Type 0} → (N → N → Bool) → (S → S → Bool) → (S → N) → N → Listing S → S → Bool
hints_own same_name same name_of n l s = hints same l s && same_name (name_of s) n

-- whether the candidates of its own package hint the solvable
abbrev pub is_hinted : {N S : Type 0} → (S → S → Bool) → (S → N) → (N → Option (Listing S)) → S → Bool
is_hinted same name_of candidates_of s = hints same (listing_or_empty (candidates_of (name_of s))) s

-- the new set has all members of the old one, and its new members pass the test
pub record Grows {S : Type 0} (test old new : S → Bool) : Type 0 where
  pub stays : (s : S) → old s ≡ true → new s ≡ true
  pub only : (s : S) → new s ≡ true → (old s ≡ true) ⊎ (test s ≡ true)

-- a set that has each one that passes the test
abbrev pub HasEach : {S : Type 0} → (S → Bool) → (S → Bool) → Type 0
HasEach {S} test has = (s : S) → test s ≡ true → has s ≡ true

-- a set of hinted solvables, with each of those whose package is kept
pub record HoldsHinted {S : Type 0} (is_kept hinted has : S → Bool) : Type 0 where
  pub only : (s : S) → has s ≡ true → hinted s ≡ true
  pub each : (s : S) → is_kept s ≡ true → hinted s ≡ true → has s ≡ true
