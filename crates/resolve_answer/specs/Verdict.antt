-- A solver's answer to a request over the provider of a catalogue, and its verdict.
use Rattle.std.specs.Prelude.{◌≡◌, Bool, List, Result, Ok, Err}
use Rattle.std.specs.Global.{Vec}
use Rattle.resolvo_text.specs.Line.{Line}
use Rattle.resolvo_catalogue_core.specs.Grammar.{AreRequestLines}
use Rattle.resolvo_catalogue_core.specs.Questions.{ReadRequest}
use Rattle.resolvo_sat.specs.RuleClauses.{IsExact}
use Rattle.resolvo_terms.specs.Terms.{NameId}
use Rattle.resolvo_catalogue.specs.Ids.{SolvableId}
use Rattle.resolvo_catalogue.specs.Provider.{Provider, packages_of}
use Rattle.resolvo_catalogue.specs.Over.{IsOver, AreAsked}
use Rattle.resolvo_catalogue.specs.KeptSets.{root_of}
use Rattle.resolvo_catalogue.specs.declared.dependency_provider.GivenUp.{GivenUp}
use Rattle.resolvo_catalogue.specs.declared.provider.RequestIds.{RequestIds}
use Rattle.resolvo.specs.Solver.{IsAnswer, Kept}
use Rattle.resolvo.specs.declared.conflict.Conflict.{Conflict}
use Rattle.resolvo.specs.declared.solver.UnsolvableOrCancelled.{UnsolvableOrCancelled}
use Rattle.resolvo.specs.declared.solver.UnsolvableOrCancelled.TheVariants.{Unsolvable}
use Rattle.resolve_answer.specs.TryOrder.{orders_of}

-- The result of a call of a solver over a catalogue's provider. It is cancelled only where there is
-- a budget.
abbrev pub Verdict : Type 0
Verdict = Result (Vec SolvableId) (UnsolvableOrCancelled GivenUp)

-- A solver over a provider of the catalogue gives this for a request over the catalogue. Which
-- dependencies the provider declares as at hand is open.
pub record IsGivenOver (catalogue : List Line) (source : ReadRequest) (provider : Provider) (verdict : Verdict) : Type 0 where
  pub over : IsOver catalogue provider
  pub asks : AreRequestLines catalogue source.lines
  pub ids : RequestIds
  pub asked : AreAsked provider.ids source ids
  -- an exact test of whether two solvables are the same
  pub same : SolvableId → SolvableId → Bool
  pub exact : IsExact same
  pub wishes : List SolvableId
  pub kept : Kept Provider NameId SolvableId
  pub answer : IsAnswer same (packages_of provider) (root_of ids) (orders_of same provider) wishes verdict kept

-- solvables were chosen
abbrev pub IsChosen : Verdict → Type 0
IsChosen verdict = (v : Vec SolvableId) × (verdict ≡ Ok v)

-- there is no solution
abbrev pub IsRefused : Verdict → Type 0
IsRefused verdict = (conflict : Conflict) × (verdict ≡ Err (Unsolvable conflict))
