-- The dependencies of lines, as ids.
use Rattle.std.specs.Prelude.{◌≡◌, ℕ, List, [], ◌∷◌, Option, Some, None, Contains, option_to_list}
use Rattle.std.specs.List.{flat_map}
use Rattle.resolvo_text.specs.Line.{Spec, Cond, Line, Skipped, Listed, Needs, Limits, Unknown, Lock, Favour, Exclude, Many, Wish}
use Rattle.resolvo_catalogue_core.specs.Grammar.{line_at}
use Rattle.resolvo_pool_core.specs.declared.id.StringId.{StringId}
use Rattle.resolvo_pool_core.specs.declared.id.VersionSetId.{VersionSetId}
use Rattle.resolvo_pool_core.specs.declared.requirement.ConditionalRequirement.{ConditionalRequirement}
use Rattle.resolvo_catalogue.specs.Ids.{Ids, IsNeed, IsSpec, IsWord}
use Rattle.resolvo_terms.specs.Terms.{AreEach}
use Rattle.resolvo_catalogue.specs.declared.dependencies.VersionDependencies as code

-- The requirements and constraints of lines, as ids, and the reason where they are unknown.
pub record VersionDependencies : Type 0 where
  pub requirements : List ConditionalRequirement
  pub constrains : List VersionSetId
  pub unknown : Option StringId

abbrev pub deps_of : code.VersionDependencies → VersionDependencies
deps_of t = record { requirements = t.requirements.items; constrains = t.constrains.items; unknown = t.unknown }

-- those of no lines
abbrev pub no_lines : VersionDependencies
no_lines = record { requirements = []; constrains = []; unknown = None }

-- ---- the need, limit or reason of a line

abbrev pub need_in : Line → List (List Spec × Option Cond)
need_in (Needs alternatives condition) = (alternatives, condition) ∷ []
need_in Skipped = []
need_in (Listed v) = []
need_in (Limits s) = []
need_in (Unknown reason) = []
need_in (Lock v) = []
need_in (Favour v) = []
need_in (Many name) = []
need_in (Exclude v reason) = []
need_in (Wish v) = []

abbrev pub limit_in : Line → List Spec
limit_in (Limits s) = s ∷ []
limit_in Skipped = []
limit_in (Listed v) = []
limit_in (Needs alternatives condition) = []
limit_in (Unknown reason) = []
limit_in (Lock v) = []
limit_in (Favour v) = []
limit_in (Many name) = []
limit_in (Exclude v reason) = []
limit_in (Wish v) = []

abbrev pub reason_in : Line → List (List ℕ)
reason_in (Unknown reason) = reason ∷ []
reason_in Skipped = []
reason_in (Listed v) = []
reason_in (Needs alternatives condition) = []
reason_in (Limits s) = []
reason_in (Lock v) = []
reason_in (Favour v) = []
reason_in (Many name) = []
reason_in (Exclude v reason) = []
reason_in (Wish v) = []

-- the lines of these numbers
abbrev pub lines_at : List Line → List ℕ → List Line
lines_at lines numbers = flat_map (λ n. option_to_list (line_at lines n)) numbers

-- ---- the dependencies of lines

-- The word is one of the reasons, or there is none.
abbrev pub IsReason : Ids → Option StringId → List (List ℕ) → Type 0
IsReason ids None reasons = reasons ≡ []
IsReason ids (Some w) reasons = (reason : List ℕ) × Contains reasons reason × IsWord ids w reason

-- These requirements and limits are those of the lines, in order.
pub record AreDependenciesOf (ids : Ids) (lines : List Line) (deps : VersionDependencies) : Type 0 where
  pub requirements : AreEach (IsNeed ids) deps.requirements (flat_map need_in lines)
  pub constrains : AreEach (IsSpec ids) deps.constrains (flat_map limit_in lines)
  pub unknown : IsReason ids deps.unknown (flat_map reason_in lines)
