-- The wishes of a request, and those that a search is asked for.
use Rattle.std.specs.Prelude.{◌≡◌, ℕ, List, [], ◌∷◌, map, Option, Some, None, Contains, slice_get}
use Rattle.std.specs.List.{flat_map}
use Rattle.std.specs.Option.{option_map}
use Rattle.std.specs.Iterator.Runs.{WholeRun}
use Rattle.resolvo_text.specs.Line.{Line}
use Rattle.resolvo_catalogue_core.specs.Listed.{listed}
use Rattle.resolvo_catalogue_core.specs.Questions.{ReadRequest, WishesAt}
use Rattle.resolvo_catalogue_core.specs.declared.rule.VersionNo.{VersionNo}
use Rattle.resolvo_catalogue.specs.Ids.{SolvableId, solvable_id}
use Rattle.resolvo_report.specs.View.{step_of}
use Rattle.resolvo_report.specs.declared.step.Step.{Step}
use Rattle.resolve_refusal.specs.InstallSteps.{IsForbidStepOf}
use Rattle.resolve_answer.specs.declared.wishes.Wish.{Wish}

-- a wish, by its line and its version
abbrev pub asked_by : Wish → ℕ × VersionNo
asked_by w = (w.line, w.version)

-- the wishes of a request have the versions of their lines
abbrev pub AreWishesAt : List Line → ReadRequest → Type 0
AreWishesAt catalogue source = (i : ℕ) (f : ℕ × VersionNo) → slice_get source.wishes i ≡ Some f → WishesAt (listed catalogue) source.lines f

-- The wishes are these, and each is forbidden by its step, or no lock and no exclusion forbids it.
pub record AreWishesOf (catalogue : List Line) (wishes : List (ℕ × VersionNo)) (items : List Wish) : Type 0 where
  pub are : map asked_by items ≡ wishes
  pub forbids : (w : Wish) → Contains items w → IsForbidStepOf catalogue w.version.0 (option_map step_of w.forbidden_by)

-- the solvable, where no step forbids it
abbrev pub unless_forbidden : Option Step → SolvableId → List SolvableId
unless_forbidden None s = s ∷ []
unless_forbidden (Some step) s = []

-- the solvables of the wishes that no step forbids
abbrev pub free_of : List Wish → List SolvableId
free_of items = flat_map (λ w. unless_forbidden w.forbidden_by (solvable_id w.version.0)) items

-- A run of the iterator to its end gives these solvables.
abbrev pub GivesAll : {I : Type 0} → (I → Option SolvableId → I → Type 0) → I → List SolvableId → Type 0
GivesAll steps it solvables = (all : List SolvableId) → WholeRun steps it (λ p. all ≡ p.items) → all ≡ solvables
