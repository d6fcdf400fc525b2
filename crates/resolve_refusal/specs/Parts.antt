-- The parts of a refused report: what they are of any steps, and of a proof that ends.
use Rattle.std.specs.Prelude.{ℕ, List, [], length}
use Rattle.std.specs.List.{AllZip}
use Rattle.resolvo_text.specs.Line.{Line}
use Rattle.resolvo_catalogue_core.specs.Questions.{AreAll}
use Rattle.resolvo_catalogue.specs.Ids.{Ids, SolvableId}
use Rattle.resolvo_terms.specs.Terms.{NameId}
use Rattle.resolvo_proof.specs.declared.step.ProofStep.{ProofStep}
use Rattle.resolvo_report.specs.Value.{Report, Refused}
use Rattle.resolvo_report.specs.Text.{report_lines}
use Rattle.resolvo_report.specs.Grammar.{IsReport}
use Rattle.resolvo_report.specs.View.{steps_of}
use Rattle.resolvo_judge.specs.Judgement.{IsClaimTrue}
use Rattle.resolvo_judge.specs.Refusal.{IsAccepted}
use Rattle.resolve_refusal.specs.declared.named_lines.Text.TheVariants as text
use Rattle.resolve_refusal.specs.declared.report.Refusal.{Refusal}
use Rattle.resolve_refusal.specs.Named.{IsNamedBy, AreUsedLines}
use Rattle.resolve_refusal.specs.RefusedReport.{IsWritten}
use Rattle.resolve_refusal.specs.Refusal.{IsWrittenAs}

-- the report of a refusal with this message
abbrev pub report_with : List (List ℕ) → Refusal → Report
report_with message r = Refused r.catalogue.items r.request.items (steps_of r.steps.items) message

-- The refusal has a step for each of the proof's, in order. It names the lines of both texts on
-- which its steps rest.
pub record IsRefusedBy (catalogue request : List Line) (ids : Ids) (steps : List (ProofStep NameId SolvableId)) (r : Refusal) : Type 0 where
  pub each : AllZip (IsWritten catalogue ids) steps (steps_of r.steps.items)
  pub named : AreAll r.catalogue.items (IsNamedBy text.Catalogue (length catalogue) (steps_of r.steps.items))
  pub asked : AreAll r.request.items (IsNamedBy text.Request (length request) (steps_of r.steps.items))

-- It is a refusal by these steps, and names the lines that they use. The judge accepts its report
-- without a message, so the claim is true.
pub record IsRefusalOf (catalogue request : List Line) (ids : Ids) (steps : List (ProofStep NameId SolvableId)) (r : Refusal) : Type 0 where
  pub each : AllZip (IsWrittenAs catalogue ids request) steps (steps_of r.steps.items)
  pub used : AreUsedLines catalogue request r.catalogue.items r.request.items (steps_of r.steps.items)
  pub report : IsReport (report_with [] r)
  pub accepted : IsAccepted catalogue request (report_lines (report_with [] r))
  pub claim : IsClaimTrue catalogue request (report_with [] r)
