-- The entries of a cache over a provider.
use Rattle.std.specs.Prelude.{◌≡◌, ◌==◌, Bool, true, List, [], Option, Some, ⊤, MatchOption, unwrap_or, is_some, All}
use Rattle.std.specs.Map.{lookup}
use Rattle.std.specs.List.{list_any, flat_map}
use Rattle.resolvo_pool_core.specs.declared.id.VersionSetId.{VersionSetId}
use Rattle.resolvo_pool_core.specs.declared.id.VersionSetUnionId.{VersionSetUnionId}
use Rattle.resolvo_pool_core.specs.declared.requirement.Requirement.{Requirement}
use Rattle.resolvo_pool_core.specs.declared.requirement.Requirement.TheVariants.{Single, Union}
use Rattle.resolvo_pool.specs.declared.cache.CacheFault.{CacheFault}
use Rattle.resolvo_pool.specs.declared.cache.CacheFault.TheVariants.{Memory, Ids, Cancelled}
use Rattle.resolvo_pool_core.specs.declared.provider.Candidates.{Candidates}
use Rattle.resolvo_pool_core.specs.declared.provider.Dependencies.{Dependencies}
use Rattle.resolvo_pool_core.specs.Provider.{Listing, Needs, listing, listing_or_empty, needs_of, IsTried}

-- a provider, the keys of each kind whose answers are kept, and the sorted lists
pub record Cached (P N S : Type 0) : Type 0 where
  pub provider : P
  pub names : List N
  pub matching : List VersionSetId
  pub non_matching : List VersionSetId
  pub sorted : List (VersionSetId × List S)
  pub unions : List VersionSetUnionId
  pub solvables : List S

abbrev pub same_set : VersionSetId → VersionSetId → Bool
same_set v w = v.0 == w.0

abbrev pub same_union : VersionSetUnionId → VersionSetUnionId → Bool
same_union u w = u.0 == w.0

-- whether x is among the keys
abbrev pub among : {K : Type 0} → (K → K → Bool) → List K → K → Bool
among eq xs x = list_any (eq x) xs

-- the sorted list of a version set, where it is kept
abbrev pub sorted_of : {S : Type 0} → List (VersionSetId × List S) → VersionSetId → List S
sorted_of es v = unwrap_or (lookup (same_set v) es) []

abbrev pub is_sorted : {S : Type 0} → List (VersionSetId × List S) → VersionSetId → Bool
is_sorted es v = is_some (lookup (same_set v) es)

-- whether the sorted list of a requirement is kept
abbrev pub has_sorted : {P N S : Type 0} → Cached P N S → Requirement → Bool
has_sorted c (Single v) = is_sorted c.sorted v
has_sorted c (Union u) = among same_union c.unions u

-- the entry at each key is true of it
abbrev pub IsKept : {K V : Type 0} → (K → K → Bool) → (K → V → Type 0) → List (K × V) → Type 0
IsKept {K} eq P es = (q : K) → MatchOption (lookup (eq q) es) ⊤ (P q)

-- kept candidates are the provider's
abbrev pub IsListing : {N S : Type 0} → (N → Option (Listing S)) → N → Candidates S → Type 0
IsListing candidates_of n c = listing c ≡ listing_or_empty (candidates_of n)

-- a kept list is that of its version set
abbrev pub IsList : {S : Type 0} → (VersionSetId → List S) → VersionSetId → List S → Type 0
IsList list_of v xs = xs ≡ list_of v

-- a sorted list in the cache is one that the provider may return, with the favoured one first
abbrev pub IsSortedList : {S : Type 0} → (List S → List S → Type 0) → (S → S → Bool) → (VersionSetId → Option S) → (VersionSetId → List S) → VersionSetId → List S → Type 0
IsSortedList sorts eq first list_of v xs = IsTried sorts eq (first v) (list_of v) xs

-- a kept list of a union is its version sets' sorted lists in order
abbrev pub IsUnionList : {S : Type 0} → (VersionSetUnionId → List VersionSetId) → List (VersionSetId × List S) → VersionSetUnionId → List S → Type 0
IsUnionList members_of es u xs = (xs ≡ flat_map (sorted_of es) (members_of u)) × All (λ v. is_sorted es v ≡ true) (members_of u)

-- a kept answer on dependencies is the provider's
abbrev pub IsNeeds : {S : Type 0} → (S → Needs) → S → Dependencies → Type 0
IsNeeds dependencies_of s d = needs_of d ≡ dependencies_of s

-- the provider and the entries stay
pub record Extends {P N S : Type 0} (same_name : N → N → Bool) (same : S → S → Bool) (old new : Cached P N S) : Type 0 where
  pub provider : new.provider ≡ old.provider
  pub names : (n : N) → among same_name old.names n ≡ true → among same_name new.names n ≡ true
  pub matching : (v : VersionSetId) → among same_set old.matching v ≡ true → among same_set new.matching v ≡ true
  pub non_matching : (v : VersionSetId) → among same_set old.non_matching v ≡ true → among same_set new.non_matching v ≡ true
  pub sorted : (v : VersionSetId) (xs : List S) → lookup (same_set v) old.sorted ≡ Some xs → lookup (same_set v) new.sorted ≡ Some xs
  pub unions : (u : VersionSetUnionId) → among same_union old.unions u ≡ true → among same_union new.unions u ≡ true
  pub solvables : (s : S) → among same old.solvables s ≡ true → among same new.solvables s ≡ true

-- nothing but candidates of packages may have been added to the cache
pub record AddsNames {P N S : Type 0} (old new : Cached P N S) : Type 0 where
  pub provider : new.provider ≡ old.provider
  pub matching : new.matching ≡ old.matching
  pub non_matching : new.non_matching ≡ old.non_matching
  pub sorted : new.sorted ≡ old.sorted
  pub unions : new.unions ≡ old.unions
  pub solvables : new.solvables ≡ old.solvables

-- those, and the matching candidates of version sets
pub record AddsMatching {P N S : Type 0} (old new : Cached P N S) : Type 0 where
  pub provider : new.provider ≡ old.provider
  pub non_matching : new.non_matching ≡ old.non_matching
  pub sorted : new.sorted ≡ old.sorted
  pub unions : new.unions ≡ old.unions
  pub solvables : new.solvables ≡ old.solvables

-- those, and the sorted candidates of version sets
pub record AddsSorted {P N S : Type 0} (old new : Cached P N S) : Type 0 where
  pub provider : new.provider ≡ old.provider
  pub non_matching : new.non_matching ≡ old.non_matching
  pub unions : new.unions ≡ old.unions
  pub solvables : new.solvables ≡ old.solvables

-- a value with which the provider cancels is one that it may
abbrev pub IsCancelledBy : {C : Type 0} → (C → Type 0) → CacheFault C → Type 0
IsCancelledBy may Memory = ⊤
IsCancelledBy may Ids = ⊤
IsCancelledBy may (Cancelled c) = may c
