-- The message of a refused report.
use Rattle.std.specs.Prelude.{◌≡◌, ℕ, Bool, not, IsTrue, List, ◌++◌, codes}
use Rattle.std.specs.List.{AllByRecursion, AllZip, list_all, flat_map}
use Rattle.resolvo_text.specs.Line.{Line}
use Rattle.resolvo_text.specs.Lines.{is_newline}
use Rattle.resolvo_catalogue_core.specs.Questions.{ReadRequest}
use Rattle.resolvo_graph.specs.Message.{IsMessage, text_of}
use Rattle.resolvo_graph.specs.Words.{Meaning}
use Rattle.resolvo_graph.specs.declared.display_line.MessageLine.{MessageLine}
use Rattle.resolvo_pool_core.specs.declared.requirement.Requirement.{Requirement}
use Rattle.resolvo_sat.specs.RuleClauses.{IsExact}
use Rattle.resolvo_proof.specs.declared.step.ProofStep.{ProofStep}
use Rattle.resolvo_terms.specs.Terms.{NameId}
use Rattle.resolvo_catalogue.specs.Ids.{SolvableId}
use Rattle.resolvo_catalogue.specs.Known as shows
use Rattle.resolvo_catalogue.specs.Known.{name_of, set_at, members_of}
use Rattle.resolvo_catalogue.specs.Provider.{Provider, packages_of}
use Rattle.resolvo_report.specs.Value.{Step}
use Rattle.resolve_refusal.specs.Refusal.{IsProofOver, IsWrittenAs}
use Rattle.resolvo_proof.specs.Draw.{conflict_drawing}
use Rattle.resolvo_proof.specs.Order.{conflict_rules}
use Rattle.resolvo_proof.specs.Offered.{offered_by}
use Rattle.resolvo_proof.specs.declared.offers.Offers.{Offers}
use Rattle.resolvo.specs.Conflicts.{AreOffers}
use Rattle.resolve_answer.specs.TryOrder.{orders_of}

-- the line has no newline
abbrev pub IsPlain : List ℕ → Type 0
IsPlain line = IsTrue (list_all (λ b. not (is_newline b)) line)

-- the text of these lines, each with its newline
abbrev pub joined : List (List ℕ) → List ℕ
joined lines = flat_map (λ line. line ++ codes "\n") lines

-- These are the lines of the text, up to its last newline; none has a newline, and neither has the
-- rest.
pub record AreLinesOf (text : List ℕ) (lines : List (List ℕ)) : Type 0 where
  pub rest : List ℕ
  pub parts : text ≡ joined lines ++ rest
  pub plain : AllByRecursion IsPlain lines
  pub left : IsPlain rest

-- the texts that a catalogue's provider gives to the ids of a message
abbrev pub meaning_of : Provider → Meaning NameId SolvableId
meaning_of p = record {
  name_of = λ v. (set_at p.ids v).0;
  members_of = members_of p.ids;
  name_text = shows.name_text p.ids;
  version_set_text = λ v. shows.span_text (set_at p.ids v).1.0;
  versions_text = shows.merged_text p.ids;
  word_text = shows.word_text p.ids;
}

module _ (same_name : NameId → NameId → Bool) (same : SolvableId → SolvableId → Bool) where
  -- The lines are the text of the conflict graph: that of the rules on which the end of these steps
  -- rests, with the offered candidates.
  pub record IsTextOf (p : Provider) (offered : Requirement → List SolvableId) (steps : List (ProofStep NameId SolvableId)) (message : List (List ℕ)) : Type 0 where
    pub lines : List (MessageLine SolvableId)
    pub is_message : IsMessage same_name same (name_of p.ids) (conflict_drawing same_name same (name_of p.ids) offered (conflict_rules steps)) lines
    pub text : joined message ≡ text_of (meaning_of p) lines
    pub plain : AllByRecursion IsPlain message

-- The message is that of the steps' conflict. Over a provider of the catalogue with the request's
-- ids, the steps write a proof. The offered candidates are those of the requirements in its rules.
-- The message is the text of its graph.
pub record IsMessageOf (catalogue request : List Line) (steps : List Step) (message : List (List ℕ)) : Type 0 where
  pub source : ReadRequest
  pub asks : source.lines ≡ request
  pub provider : Provider
  pub proof : List (ProofStep NameId SolvableId)
  pub proves : IsProofOver catalogue source provider proof
  pub matched : AllZip (IsWrittenAs catalogue provider.ids request) proof steps
  -- exact tests of whether two packages, or two solvables, are the same
  pub same_name : NameId → NameId → Bool
  pub one_name : IsExact same_name
  pub same : SolvableId → SolvableId → Bool
  pub exact : IsExact same
  pub offers : Offers SolvableId
  pub offered : AreOffers same (packages_of provider) (orders_of same provider) proof offers
  pub text : IsTextOf same_name same provider (offered_by offers) proof message
