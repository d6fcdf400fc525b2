-- The solvables of a package that locks and exclusions keep out.
use Rattle.std.specs.Prelude.{◌≡◌, Bool, true, false, not, List, [], ◌++◌, map, filter, Option, None, Some, Contains}
use Rattle.std.specs.List.{AllByRecursion}
use Rattle.resolvo_pool_core.specs.declared.id.StringId.{StringId}
use Rattle.resolvo_pool_core.specs.Provider.{Listing, listed, listing_or_empty}
use Rattle.resolvo_pool_core.specs.RuleKeeping.{Packages, is_in, is_forbidden}
use Rattle.resolvo_packages.specs.declared.package_source.ForbiddenSolvable.{ForbiddenSolvable}
use Rattle.resolvo_packages.specs.declared.package_source.ForbiddenBy.{ForbiddenBy}
use Rattle.resolvo_packages.specs.declared.package_source.ForbiddenBy.TheVariants.{Locked, Excluded}

-- the package's listing keeps the solvable out, for this: it is a candidate and another one is locked, or it is excluded
abbrev pub KeepsOut : {S : Type 0} → (S → S → Bool) → Listing S → S → ForbiddenBy S → Type 0
KeepsOut same l s (Locked locked) = (l.locked ≡ Some locked) × (same locked s ≡ false) × Contains l.candidates s
KeepsOut same l s (Excluded reason) = Contains l.excluded (s, reason)

-- the solvables of the list
abbrev pub forbidden_solvables : {S : Type 0} → List (ForbiddenSolvable S) → List S
forbidden_solvables list = map (λ b. b.solvable) list

-- The list holds each candidate of the package that a lock or an exclusion keeps out. Each of its
-- solvables is of the package, and is kept out for the reason beside it.
pub record AreForbidden {N S : Type 0} (same : S → S → Bool) (p : Packages N S) (n : N) (list : List (ForbiddenSolvable S)) : Type 0 where
  pub each : (s : S) → is_in same p (listed (p.candidates_of n)) s ≡ true → is_forbidden same p s ≡ true → is_in same p (forbidden_solvables list) s ≡ true
  pub all : AllByRecursion (λ b. (p.package_of b.solvable ≡ n) × KeepsOut same (listing_or_empty (p.candidates_of n)) b.solvable b.why) list

-- the candidate, kept out by a lock on another
abbrev pub locked_by : {S : Type 0} → S → S → ForbiddenSolvable S
locked_by locked s = record { solvable = s; why = Locked locked }

-- the solvable, excluded for this reason
abbrev pub excluded_by : {S : Type 0} → S × StringId → ForbiddenSolvable S
excluded_by e = record { solvable = e.0; why = Excluded e.1 }

-- the candidates that a lock keeps out
abbrev pub locked_out : {S : Type 0} → (S → S → Bool) → Option S → List S → List (ForbiddenSolvable S)
locked_out same None xs = []
locked_out same (Some l) xs = map (locked_by l) (filter (λ s. not (same l s)) xs)

-- the solvables that a listing keeps out
abbrev pub kept_out : {S : Type 0} → (S → S → Bool) → Listing S → List (ForbiddenSolvable S)
kept_out same l = locked_out same l.locked l.candidates ++ map excluded_by l.excluded
