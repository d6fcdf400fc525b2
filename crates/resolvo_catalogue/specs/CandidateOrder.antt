-- In which order the candidates of a version set are tried.
use Rattle.std.specs.Prelude.{Bool, false, List}
use Rattle.resolvo_pool_core.specs.declared.id.VersionSetId.{VersionSetId}
use Rattle.resolvo_pool_core.specs.Provider.{matching_in, tried_first, favoured_first, IsTried}
use Rattle.resolvo_catalogue.specs.Ids.{SolvableId}
use Rattle.resolvo_catalogue.specs.Known.{set_at}
use Rattle.resolvo_catalogue.specs.Sorted.{sorted_by}
use Rattle.resolvo_catalogue.specs.Provider.{Provider, candidates_of, matches, age_of, IsSorted}

-- the version set's matches, in some order
abbrev pub matching : Provider → VersionSetId → List SolvableId
matching p w = matching_in (λ v. (set_at p.ids v).0) (candidates_of p) (matches p) false w

-- they are tried in this order: sorted by the provider, and then the favoured one first
abbrev pub IsOrder : Provider → (SolvableId → SolvableId → Bool) → VersionSetId → List SolvableId → Type 0
IsOrder p same w list = IsTried (IsSorted p) same (tried_first (λ v. (set_at p.ids v).0) (candidates_of p) w) (matching p w) list

-- the favoured match, and then the others, newest first
abbrev pub order_of : Provider → (SolvableId → SolvableId → Bool) → VersionSetId → List SolvableId
order_of p same w = favoured_first same (tried_first (λ v. (set_at p.ids v).0) (candidates_of p) w) (sorted_by (age_of p) (matching p w))
