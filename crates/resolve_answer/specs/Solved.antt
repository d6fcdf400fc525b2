-- The outcome of a search over the provider of a catalogue, for a request.
use Rattle.std.specs.Prelude.{◌≡◌, ℕ, ◌<◌, Bool, List, length, map, take, Some, Contains}
use Rattle.resolvo_text.specs.Line.{Line}
use Rattle.resolvo_catalogue_core.specs.Questions.{ReadRequest}
use Rattle.resolvo_sat.specs.RuleClauses.{IsExact}
use Rattle.resolvo_terms.specs.Terms.{NameId}
use Rattle.resolvo_catalogue.specs.Ids.{SolvableId}
use Rattle.resolvo_catalogue.specs.Provider.{Provider, packages_of}
use Rattle.resolvo_catalogue.specs.Over.{IsOver, AreAsked}
use Rattle.resolvo_catalogue.specs.KeptSets.{root_of}
use Rattle.resolvo_catalogue.specs.declared.provider.RequestIds.{RequestIds}
use Rattle.resolvo_sat.specs.First.{ArePreferred}
use Rattle.resolve_install.specs.Install.{AreWishes}
use Rattle.resolvo_proof.specs.Proof.{EndsEmpty}
use Rattle.resolvo_proof.specs.declared.step.ProofStep.{ProofStep}
use Rattle.resolvo_proof.specs.Offered.{offered_by}
use Rattle.resolvo.specs.Conflicts.{Left, AreOffers}
use Rattle.resolvo.specs.declared.turns.Turn.{Turn}
use Rattle.resolvo.specs.Solve.{AreRightSteps, HasProof}
use Rattle.resolvo.specs.Solver.{Kept}
use Rattle.resolvo.specs.Turns.{AreSolvedByTurn, first_of}
use Rattle.resolve_answer.specs.TryOrder.{orders_of}
use Rattle.resolvo_report.specs.Value.{Message}
use Rattle.resolvo_report.specs.Text.{lines_text}
use Rattle.resolvo_report.specs.Grammar.{most_bytes}
use Rattle.resolve_answer.specs.Message.{IsTextOf, joined}
use Rattle.resolve_answer.specs.Wishes.{AreWishesOf, free_of}
use Rattle.resolve_answer.specs.declared.wishes.Wish.{Wish}

-- A solver over the provider keeps a proof that there is no solution for the request. If it keeps a
-- conflict, its offered candidates are right. The test distinguishes solvables.
pub record IsRefutedOver (same : SolvableId → SolvableId → Bool) (catalogue : List Line) (source : ReadRequest) (solver : Kept Provider NameId SolvableId) : Type 0 where
  pub over : IsOver catalogue solver.provider
  pub ids : RequestIds
  pub asked : AreAsked solver.provider.ids source ids
  pub exact : IsExact same
  pub steps : AreRightSteps same (packages_of solver.provider) (root_of ids) solver.proof
  pub ends : EndsEmpty solver.proof
  pub offers : (l : Left SolvableId) → solver.conflict ≡ Some l → AreOffers same (packages_of solver.provider) (orders_of same solver.provider) solver.proof l.offers

-- The choices of a search over the provider, for the wishes that no step forbids, are right and
-- were preferred. Its proof is one, in which each refused wish has a step.
pub record IsInstalledOver (catalogue : List Line) (source : ReadRequest) (provider : Provider) (wishes : List Wish) (chosen : List SolvableId) (turns : List (Turn SolvableId)) (proof : List (ProofStep NameId SolvableId)) : Type 0 where
  pub over : IsOver catalogue provider
  pub ids : RequestIds
  pub asked : AreAsked provider.ids source ids
  -- an exact test of whether two solvables are the same
  pub same : SolvableId → SolvableId → Bool
  pub exact : IsExact same
  pub are_wishes : AreWishes catalogue source.lines source.wishes
  pub matched : AreWishesOf catalogue source.wishes wishes
  pub wished : AreSolvedByTurn same (packages_of provider) (root_of ids) chosen (first_of chosen turns) (free_of wishes) turns
  pub preferred : ArePreferred same (packages_of provider) (orders_of same provider) (root_of ids) (take (first_of chosen turns) chosen)
  pub steps : AreRightSteps same (packages_of provider) (root_of ids) proof
  pub proofs : (t : Turn SolvableId) → Contains turns t → HasProof proof chosen t

-- The lines are the text of the graph of the conflict that the solver keeps.
abbrev pub IsTextKept : (NameId → NameId → Bool) → (SolvableId → SolvableId → Bool) → Kept Provider NameId SolvableId → List (List ℕ) → Type 0
IsTextKept same_name same solver message = (l : Left SolvableId) → solver.conflict ≡ Some l → IsTextOf same_name same solver.provider (offered_by l.offers) solver.proof message

-- The bytes are the lines of a message, as a report has them: the text of that graph.
abbrev pub IsMessageKept : (NameId → NameId → Bool) → (SolvableId → SolvableId → Bool) → Kept Provider NameId SolvableId → List ℕ → Type 0
IsMessageKept same_name same solver bytes = (message : List (List ℕ)) × (bytes ≡ lines_text (map Message message)) × IsTextKept same_name same solver message

-- The text of the graph of the conflict that the solver keeps has more bytes than a report may have.
abbrev pub HasLongText : (NameId → NameId → Bool) → (SolvableId → SolvableId → Bool) → Kept Provider NameId SolvableId → Type 0
HasLongText same_name same solver = (l : Left SolvableId) → solver.conflict ≡ Some l → (message : List (List ℕ)) × IsTextOf same_name same solver.provider (offered_by l.offers) solver.proof message × (most_bytes < length (joined message))
