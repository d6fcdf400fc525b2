-- Which sets of solvables keep the rules of a provider, beside which sets of versions keep those of the lines.
use Rattle.std.specs.Prelude.{◌≡◌, ◌↔◌, Bool, false, List, Some, Contains, slice_get}
use Rattle.std.specs.Bool.{Decides}
use Rattle.resolvo_text.specs.Line.{Version, Line}
use Rattle.resolvo_text.specs.Matches.{Set}
use Rattle.resolvo_catalogue_core.specs.Listed.{listed}
use Rattle.resolvo_catalogue_core.specs.Sets as texts
use Rattle.resolvo_pool_core.specs.RuleKeeping.{Rules, is_forbidden, IsRuleKeeping, IsExemptKeeping}
use Rattle.resolvo_catalogue.specs.Ids.{SolvableId}
use Rattle.resolvo_catalogue.specs.Provider.{Provider, packages_of}
use Rattle.resolvo_catalogue.specs.declared.provider.RequestIds.{RequestIds}

-- The solvables and the set are the same versions.
pub record Represents (versions : List Version) (chosen : List SolvableId) (set : Set) : Type 0 where
  pub each : (s : SolvableId) → Contains chosen s → (v : Version) × (slice_get versions s.raw ≡ Some v) × Contains set v
  pub all : (v : Version) → Contains set v → (s : SolvableId) × Contains chosen s × (slice_get versions s.raw ≡ Some v)

-- The test distinguishes solvables.
abbrev pub DistinguishesIds : (SolvableId → SolvableId → Bool) → Type 0
DistinguishesIds same = (s t : SolvableId) → Decides (same s t) (s ≡ t)

-- the rules of the root that a request makes
abbrev pub root_of : RequestIds → Rules
root_of asked = record { requirements = asked.requirements.items; constraints = asked.constraints.items }

-- For every set: it keeps the rules of the provider and of the root exactly if it keeps those of the two texts.
abbrev pub KeepsAlike : List Line → List Line → Provider → Rules → Type 0
KeepsAlike catalogue request p root = (same : SolvableId → SolvableId → Bool) → DistinguishesIds same → (chosen : List SolvableId) (set : Set) → Represents (listed catalogue) chosen set
    → IsRuleKeeping same (packages_of p) root chosen ↔ texts.IsRuleKeeping catalogue request set

-- Where no wish is forbidden, a set keeps the rules with exemptions for wishes exactly if it keeps those of the two texts.
abbrev pub KeepsAlikeExempt : List Line → List Line → Provider → Rules → List SolvableId → Type 0
KeepsAlikeExempt catalogue request p root wishes = (same : SolvableId → SolvableId → Bool) → DistinguishesIds same → ((s : SolvableId) → Contains wishes s → is_forbidden same (packages_of p) s ≡ false)
    → (chosen : List SolvableId) (set : Set) → Represents (listed catalogue) chosen set
    → IsExemptKeeping same (packages_of p) root wishes chosen ↔ texts.IsRuleKeeping catalogue request set
