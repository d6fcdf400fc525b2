-- The answers of a provider as lists.
use Rattle.std.specs.Prelude.{◌≡◌, ◌<◌, Bool, not, List, [], ◌∷◌, Option, None, Some, cond, All, filter, ⊤, false}
use Rattle.std.specs.List.{list_any, flat_map}
use Rattle.std.specs.Set.{remove_key}
use Rattle.resolvo_pool_core.specs.declared.id.StringId.{StringId}
use Rattle.resolvo_pool_core.specs.declared.id.ConditionId.{ConditionId}
use Rattle.resolvo_pool_core.specs.declared.id.VersionSetId.{VersionSetId}
use Rattle.resolvo_pool_core.specs.declared.condition.Condition.{Condition}
use Rattle.resolvo_pool_core.specs.declared.condition.Condition.TheVariants.{Binary, Requirement}
use Rattle.resolvo_pool_core.specs.declared.requirement.ConditionalRequirement.{ConditionalRequirement}
use Rattle.resolvo_pool_core.specs.declared.provider.Candidates.{Candidates}
use Rattle.resolvo_pool_core.specs.declared.provider.HintDependenciesAvailable.{HintDependenciesAvailable}
use Rattle.resolvo_pool_core.specs.declared.provider.HintDependenciesAvailable.TheVariants as Hints
use Rattle.resolvo_pool_core.specs.declared.provider.Dependencies.{Dependencies}
use Rattle.resolvo_pool_core.specs.declared.provider.Dependencies.TheVariants.{Known, Unknown}

-- for which candidates the dependencies are at hand
pub data Hint (S : Type 0) : Type 0 where
  none : Hint S
  all : Hint S
  some : List S → Hint S

abbrev pub hint_of : {S : Type 0} → HintDependenciesAvailable S → Hint S
hint_of Hints.None = none
hint_of Hints.All = all
hint_of (Hints.Some v) = some v.items

-- a package's candidates, as lists
pub record Listing (S : Type 0) : Type 0 where
  pub candidates : List S
  pub favored : Option S
  pub locked : Option S
  pub hint : Hint S
  pub excluded : List (S × StringId)
  pub many : Bool

abbrev pub listing : {S : Type 0} → Candidates S → Listing S
listing c = record { candidates = c.candidates.items; favored = c.favored; locked = c.locked; hint = hint_of c.hint_dependencies_available; excluded = c.excluded.items; many = c.many }

-- a package without candidates
abbrev pub empty_listing : {S : Type 0} → Listing S
empty_listing = record { candidates = []; favored = None; locked = None; hint = none; excluded = []; many = false }

-- the dependencies of a solvable, or the reason why they are unknown
pub data Needs : Type 0 where
  known : List ConditionalRequirement → List VersionSetId → Needs
  unknown : StringId → Needs

abbrev pub needs_of : Dependencies → Needs
needs_of (Known k) = known k.requirements.items k.constrains.items
needs_of (Unknown why) = unknown why

-- the operands of a condition have smaller ids than c
abbrev pub OperandsBelow : Condition → ConditionId → Type 0
OperandsBelow (Binary op a b) c = (a.0 < c.0) × (b.0 < c.0)
OperandsBelow (Requirement v) c = ⊤

-- the candidates that pass the test, in order, or with inverse those that don't
abbrev pub kept : {S : Type 0} → (S → Bool) → Bool → List S → List S
kept test inverse xs = filter (λ s. cond inverse (not (test s)) (test s)) xs

-- the solvable, if there is one, has the name
abbrev pub IsOf : {N S : Type 0} → (S → N) → N → Option S → Type 0
IsOf name_of n None = ⊤
IsOf name_of n (Some s) = name_of s ≡ n

-- the solvables of a listing, if there is one, have the name
pub record AreNamed {N S : Type 0} (name_of : S → N) (n : N) (l : Listing S) : Type 0 where
  pub candidates : All (λ s. name_of s ≡ n) l.candidates
  pub locked : IsOf name_of n l.locked
  pub excluded : All (λ e. name_of e.0 ≡ n) l.excluded

abbrev pub AreOf : {N S : Type 0} → (S → N) → N → Option (Listing S) → Type 0
AreOf name_of n None = ⊤
AreOf name_of n (Some l) = AreNamed name_of n l

-- the listing, or none without candidates
abbrev pub listing_or_empty : {S : Type 0} → Option (Listing S) → Listing S
listing_or_empty None = empty_listing
listing_or_empty (Some l) = l

-- the candidates of a listing that may be missing
abbrev pub listed : {S : Type 0} → Option (Listing S) → List S
listed o = (listing_or_empty o).candidates

-- the candidates of a version set's package that match it, or with inverse those that don't
abbrev pub matching_in : {N S : Type 0} → (VersionSetId → N) → (N → Option (Listing S)) → (VersionSetId → S → Bool) → Bool → VersionSetId → List S
matching_in set_name candidates_of matches inverse v = kept (matches v) inverse (listed (candidates_of (set_name v)))

-- the favoured candidate of a version set's package
abbrev pub tried_first : {N S : Type 0} → (VersionSetId → N) → (N → Option (Listing S)) → VersionSetId → Option S
tried_first set_name candidates_of v = (listing_or_empty (candidates_of (set_name v))).favored

-- the favoured one, if it is among them, before the others
abbrev pub favoured_first : {S : Type 0} → (S → S → Bool) → Option S → List S → List S
favoured_first eq None xs = xs
favoured_first eq (Some f) xs = cond (list_any (λ s. eq s f) xs) (f ∷ remove_key (λ s. eq s f) xs) xs

-- the order in which the matching ones are tried: sorted, with the favoured one first
abbrev pub IsTried : {S : Type 0} → (List S → List S → Type 0) → (S → S → Bool) → Option S → List S → List S → Type 0
IsTried {S} sorts eq favored matching tried = (ys : List S) × sorts matching ys × (tried ≡ favoured_first eq favored ys)

-- the tried candidates of a list of version sets: those of each, in order
abbrev pub IsTriedFor : {S : Type 0} → (List S → List S → Type 0) → (S → S → Bool) → (VersionSetId → Option S) → (VersionSetId → List S) → List VersionSetId → List S → Type 0
IsTriedFor {S} sorts eq first matching sets tried = (order : VersionSetId → List S) × All (λ v. IsTried sorts eq (first v) (matching v) (order v)) sets × (tried ≡ flat_map order sets)

-- the hint on these candidates lists s as one whose dependencies are available
abbrev pub hints_at : {S : Type 0} → (S → S → Bool) → List S → Hint S → S → Bool
hints_at eq xs none s = false
hints_at eq xs all s = list_any (eq s) xs
hints_at eq xs (some ys) s = list_any (eq s) ys

-- the hint of some listing lists s as one whose dependencies are available
abbrev pub hints : {S : Type 0} → (S → S → Bool) → Listing S → S → Bool
hints eq l s = hints_at eq l.candidates l.hint s
