-- The orders in which a catalogue's provider lets candidates be tried.
use Rattle.std.specs.Prelude.{Bool, List}
use Rattle.resolvo_pool_core.specs.declared.requirement.Requirement.{Requirement}
use Rattle.resolvo_pool_core.specs.Provider.{IsTriedFor, tried_first}
use Rattle.resolvo_pool_core.specs.Text.{alternatives_of}
use Rattle.resolvo_catalogue.specs.Ids.{SolvableId}
use Rattle.resolvo_catalogue.specs.Known.{set_at, members_of}
use Rattle.resolvo_catalogue.specs.Provider.{Provider, candidates_of, IsSorted}
use Rattle.resolvo_catalogue.specs.CandidateOrder.{matching}

-- An order in which the candidates of a requirement may be tried.
abbrev pub orders_of : (SolvableId → SolvableId → Bool) → Provider → Requirement → List SolvableId → Type 0
orders_of same p r list = IsTriedFor (IsSorted p) same (tried_first (λ v. (set_at p.ids v).0) (candidates_of p)) (matching p) (alternatives_of (members_of p.ids) r) list
