-- A provider's packages, and the candidates that it offers.
use Rattle.std.specs.Prelude.{◌≡◌, Bool, false, List, Option, map}
use Rattle.std.specs.List.{AllByRecursion}
use Rattle.resolvo_pool_core.specs.declared.id.ConditionId.{ConditionId}
use Rattle.resolvo_pool_core.specs.declared.id.VersionSetId.{VersionSetId}
use Rattle.resolvo_pool_core.specs.declared.id.VersionSetUnionId.{VersionSetUnionId}
use Rattle.resolvo_pool_core.specs.declared.condition.Condition.{Condition}
use Rattle.resolvo_pool_core.specs.declared.requirement.Requirement.{Requirement}
use Rattle.resolvo_pool_core.specs.declared.requirement.Requirement.TheVariants.{Single}
use Rattle.resolvo_pool_core.specs.Provider.{Listing, Needs, matching_in, tried_first, IsTriedFor}
use Rattle.resolvo_pool_core.specs.Text.{alternatives_of}
use Rattle.resolvo_pool_core.specs.RuleKeeping.{Packages, is_in, is_outside, meets}
use Rattle.resolvo_packages.specs.declared.package_source.Offered.{Offered}

-- a provider's packages, by its ghost members
abbrev pub packages_by : {P N S : Type 0} → (P → S → N) → (P → VersionSetId → N) → (P → VersionSetUnionId → List VersionSetId) → (P → ConditionId → Condition) → (P → N → Option (Listing S)) → (P → VersionSetId → S → Bool) → (P → S → Needs) → P → Packages N S
packages_by name_of_solvable name_of_version_set members_of condition_of candidates_of matches dependencies_of p = record {
  package_of = name_of_solvable p;
  set_package = name_of_version_set p;
  members_of = members_of p;
  condition_of = condition_of p;
  candidates_of = candidates_of p;
  matches = matches p;
  dependencies_of = dependencies_of p;
}

-- The orders in which the candidates of a requirement may be tried: those of its version sets in
-- turn, each sorted by the provider, with the favoured one first.
abbrev pub orders_by : {P N S : Type 0} → (P → VersionSetId → N) → (P → VersionSetUnionId → List VersionSetId) → (P → N → Option (Listing S)) → (P → VersionSetId → S → Bool) → (P → List S → List S → Type 0) → (S → S → Bool) → P → Requirement → List S → Type 0
orders_by name_of_version_set members_of candidates_of matches sorts same p r list =
    IsTriedFor (sorts p) same (tried_first (name_of_version_set p) (candidates_of p)) (matching_in (name_of_version_set p) (candidates_of p) (matches p) false) (alternatives_of (members_of p) r) list

-- the solvable with its package
abbrev pub offer_by : {N S : Type 0} → (S → N) → S → Offered N S
offer_by package_of s = record { solvable = s; name = package_of s }

-- the solvables that are offered
abbrev pub offered_solvables : {N S : Type 0} → List (Offered N S) → List S
offered_solvables list = map (λ o. o.solvable) list

-- The list holds the solvables that meet the requirement, each with its package.
pub record AreOffered {N S : Type 0} (same : S → S → Bool) (p : Packages N S) (r : Requirement) (list : List (Offered N S)) : Type 0 where
  pub matches : (s : S) → is_in same p (offered_solvables list) s ≡ meets same p r s
  pub named : AllByRecursion (λ o. o.name ≡ p.package_of o.solvable) list

-- the list holds the solvables that match the version set
abbrev pub AreMatching : {N S : Type 0} → (S → S → Bool) → Packages N S → VersionSetId → List S → Type 0
AreMatching {N} {S} same p v list = (s : S) → is_in same p list s ≡ meets same p (Single v) s

-- The list holds the candidates of the version set's package that don't match it, each with its package.
pub record AreOutside {N S : Type 0} (same : S → S → Bool) (p : Packages N S) (v : VersionSetId) (list : List (Offered N S)) : Type 0 where
  pub outside : (s : S) → is_in same p (offered_solvables list) s ≡ is_outside same p v s
  pub named : AllByRecursion (λ o. o.name ≡ p.package_of o.solvable) list
