-- How solvables and requirements are written.
use Rattle.std.specs.Prelude.{ℕ, ◌++◌, Bool, List, [], ◌∷◌, Option, None, Some, codes}
use Rattle.std.specs.List.{flat_map}
use Rattle.resolvo_pool_core.specs.declared.id.VersionSetId.{VersionSetId}
use Rattle.resolvo_pool_core.specs.declared.id.VersionSetUnionId.{VersionSetUnionId}
use Rattle.resolvo_pool_core.specs.declared.requirement.Requirement.{Requirement}
use Rattle.resolvo_pool_core.specs.declared.requirement.Requirement.TheVariants.{Single, Union}
use Rattle.resolvo_pool_core.specs.declared.solver_id.SolvableIdOrRoot.{SolvableIdOrRoot}
use Rattle.resolvo_pool_core.specs.declared.solver_id.SolvableIdOrRoot.TheVariants.{Root, Solvable}

-- the solvable, if it is not the root
abbrev pub solvable_of : {S : Type 0} → SolvableIdOrRoot S → Option S
solvable_of Root = None
solvable_of (Solvable s) = Some s

-- membership in a set that has a flag for the root
abbrev pub has_or_root : {S : Type 0} → Bool → (S → Bool) → SolvableIdOrRoot S → Bool
has_or_root root has Root = root
has_or_root root has (Solvable s) = has s

-- the word root, or the solvable's text
abbrev pub root_or : {S : Type 0} → (S → List ℕ) → SolvableIdOrRoot S → List ℕ
root_or text Root = codes "root"
root_or text (Solvable s) = text s

-- a version set: its package's name, a space, and its range
abbrev pub set_text : {N : Type 0} → (N → List ℕ) → (VersionSetId → List ℕ) → (VersionSetId → N) → VersionSetId → List ℕ
set_text name_text version_set_text name_of v = name_text (name_of v) ++ (codes " " ++ version_set_text v)

-- the alternatives of a requirement
abbrev pub alternatives_of : (VersionSetUnionId → List VersionSetId) → Requirement → List VersionSetId
alternatives_of members_of (Single v) = v ∷ []
alternatives_of members_of (Union u) = members_of u

-- the alternatives, each but the first after a bar
abbrev pub alternatives_text : (VersionSetId → List ℕ) → List VersionSetId → List ℕ
alternatives_text text_of [] = []
alternatives_text text_of (v ∷ vs) = text_of v ++ flat_map (λ w. codes " | " ++ text_of w) vs

abbrev pub requirement_text : (VersionSetId → List ℕ) → (VersionSetUnionId → List VersionSetId) → Requirement → List ℕ
requirement_text text_of members_of r = alternatives_text text_of (alternatives_of members_of r)
