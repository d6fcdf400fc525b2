-- The results of calls, over a source of packages with these ghost members.
use Rattle.std.specs.Prelude.{◌≡◌, ℕ, Bool, List, [], Option}
use Rattle.resolvo_pool_core.specs.declared.id.ClauseId.{ClauseId}
use Rattle.resolvo_pool_core.specs.declared.id.VersionSetId.{VersionSetId}
use Rattle.resolvo_pool_core.specs.declared.requirement.ConditionalRequirement.{ConditionalRequirement}
use Rattle.resolvo_pool_core.specs.RuleKeeping.{Rules}
use Rattle.resolvo_packages.specs.declared.package_source.PackageSource as source
use Rattle.resolvo_sat.specs.declared.analyze.FinalConflict.{FinalConflict}
use Rattle.resolvo_encoder.specs.Encoded.{IsEncoding}
use Rattle.resolvo_encoder.specs.declared.encoder.Encoder.{Encoder}
use Rattle.resolvo_proof.specs.declared.offers.Offers.{Offers}
use Rattle.resolvo_proof.specs.declared.step.ProofStep.{ProofStep}
use Rattle.resolvo_turn.specs.Encoder.{IsRoot, IsInOrderBy}
use Rattle.resolvo_turn.specs.TurnRules.{IsRootOf}
use Rattle.resolvo_turn.specs.declared.turn_input.TurnInput.{TurnInput}
use Rattle.resolvo.specs.Conflicts.{AreOffers, IsLeft}
use Rattle.resolvo.specs.SoftTurns.{AreCandidates, IsCandidate, IsJustified}
use Rattle.resolvo.specs.Solve.{IsFound, IsPreferred, IsSearch, IsSolved}
use Rattle.resolvo.specs.Turns.{AreRight, HaveReasons, IsNextRight}
use Rattle.resolvo.specs.declared.conflict.KeptConflict.{KeptConflict}
use Rattle.resolvo.specs.declared.prove.Solved.{Solved}
use Rattle.resolvo.specs.declared.search.SearchResult.{SearchResult}
use Rattle.resolvo.specs.declared.soft_requirements.SoftOutcome.{SoftOutcome}
use Rattle.resolvo.specs.declared.turns.Turns.{Turns}

module _ {A N S C : Type 0} (same : S → S → Bool) (g : source.Ghosts A N S C) (a : A) where
  -- the outcome of a soft requirement's turn, a candidate's; a refusal is justified
  abbrev pub RunsSoft : TurnInput → S → Encoder N S → Encoder N S → SoftOutcome → Type 0
  RunsSoft input soft old new outcome = (root : Rules) → IsRootOf input root
      → IsCandidate same (g.packages a) soft
      → IsInOrderBy same g a root old
      → IsInOrderBy same g a root new × IsJustified same (g.packages a) root old new soft outcome

  -- The turns of these soft requirements, candidates, after right choices. The choices are right
  -- after them, or the rules can't all be kept.
  abbrev pub RunsSofts : TurnInput → List S → Encoder N S → Turns S → Encoder N S → Turns S → Option FinalConflict → Type 0
  RunsSofts input softs old turns_old new turns_new conflict = (root : Rules) (first : ℕ)
      → IsRootOf input root
      → AreCandidates same (g.packages a) softs
      → IsInOrderBy same g a root old
      → AreRight same (g.packages a) root first [] turns_old → HaveReasons old.coding turns_old
      → IsInOrderBy same g a root new
      × IsNextRight same (g.packages a) root first softs new turns_new conflict

  -- the result of all turns, where the soft requirements are candidates
  abbrev pub RunsTurns : TurnInput → List S → Encoder N S → Encoder N S → SearchResult S → Type 0
  RunsTurns input softs old new found = (root : Rules) → IsRootOf input root
      → AreCandidates same (g.packages a) softs
      → IsInOrderBy same g a root old
      → IsInOrderBy same g a root new × IsFound same (g.packages a) root softs new found
      × IsPreferred same (g.packages a) (g.orders a) root found

  -- the result of a search for a root without requirements, from its encoding
  abbrev pub FindsNothing : Encoder N S → Encoder N S → SearchResult S → Type 0
  FindsNothing old new found = (root : Rules) → root.requirements ≡ [] → root.constraints ≡ []
      → IsEncoding same (g.packages a) root old
      → IsSearch same (g.packages a) (g.orders a) root [] new found

  -- the result of a search for a root with these requirements and constraints and for these soft
  -- requirements, candidates, from an encoding of the problem
  abbrev pub Searches : List ConditionalRequirement → List VersionSetId → List S → Encoder N S → Encoder N S → SearchResult S → Type 0
  Searches requirements constraints softs old new found = (root : Rules)
      → IsRoot requirements constraints root
      → AreCandidates same (g.packages a) softs
      → IsEncoding same (g.packages a) root old
      → IsSearch same (g.packages a) (g.orders a) root softs new found

  -- the same with its proof, from a new encoding
  abbrev pub SolvesProblem : List ConditionalRequirement → List VersionSetId → List S → Solved N S → Type 0
  SolvesProblem requirements constraints softs solved = (root : Rules)
      → IsRoot requirements constraints root
      → AreCandidates same (g.packages a) softs
      → IsSolved same (g.packages a) (g.orders a) root softs solved

  -- the right offers for the rules of the steps' conflict
  abbrev pub OffersAll : List (ProofStep N S) → Offers S → Type 0
  OffersAll steps offers = AreOffers same (g.packages a) (g.orders a) steps offers

  -- the record of a conflict, if there is one
  abbrev pub LeavesConflict : SearchResult S → List (ProofStep N S) → List ClauseId → Option (KeptConflict S) → Type 0
  LeavesConflict found steps ids left = IsLeft same (g.packages a) (g.orders a) found steps ids left
