use Rattle.std.proofs.Common.{◌≡◌, ◌∷◌, ℕ, List, sym, ◌∙◌, subst}
use Rattle.std.specs.Prelude.{Contains}
use Rattle.resolve_order.specs.declared.entry.Turn.{Turn}
use Rattle.resolvo_proof.specs.Trimmed.{IsTrimmedWith, StaysProof}
use Rattle.resolvo_proof.specs.Drawn.{HaveOneSigns}
use Rattle.resolvo_proof.specs.Places.{HaveOnePlace}
use Rattle.resolvo_proof.specs.declared.step.ProofStep.{ProofStep}
use Rattle.resolvo_terms.specs.Terms.{NameId}
use Rattle.resolvo_catalogue.specs.Ids.{SolvableId}
use Rattle.resolvo_report.specs.Value.{Install}
use Rattle.resolvo_report.specs.View.{steps_of}
use Rattle.resolvo_report.specs.declared.step.Step.{Step}
use Rattle.resolve_install.specs.Install.{Serve, IsInstallOf, IsInstallText}
use Rattle.resolve_answer.specs.ReportTurns.{AreWanted}
use Rattle.resolve_answer.proofs.Upheld.{installed_reported}
use Rattle.resolve_answer.proofs.answer.installed_over.Goals as goal

pub returns : goal.returns
returns c = λ asks is.
    let (t, rest, are, first_turn, matched) = c.in_ok-matched.ensures.turns in
    let proof = c.args.proof.items in
    let wanted = c.as_slice.result.now in
    let kept_is = sym c.as_slice-2.ensures.value in
    let turns_are : c.as_slice-5.result.now ≡ t ∷ rest = c.as_slice-5.ensures.value ∙ are in
    let trimmed : IsTrimmedWith (Contains wanted) proof c.as_slice-2.result.now c.as_slice-4.result.now =
    subst (λ (ns : List ℕ). IsTrimmedWith (Contains wanted) proof c.as_slice-2.result.now ns) (sym c.as_slice-4.ensures.value) (subst (λ (ks : List (ProofStep NameId SolvableId)). IsTrimmedWith (Contains wanted) proof ks c.in_ok-steps.field-0.numbers.items) kept_is c.in_ok-steps.ensures.kept) in
    let stays : StaysProof proof c.as_slice-2.result.now = subst (λ (ks : List (ProofStep NameId SolvableId)). StaysProof proof ks) kept_is c.in_ok-steps.ensures.proof in
    let one_place : HaveOnePlace proof → HaveOnePlace c.as_slice-2.result.now = subst (λ (ks : List (ProofStep NameId SolvableId)). HaveOnePlace proof → HaveOnePlace ks) kept_is c.in_ok-steps.ensures.places in
    let one_sign : HaveOneSigns proof → HaveOneSigns c.as_slice-2.result.now = subst (λ (ks : List (ProofStep NameId SolvableId)). HaveOneSigns proof → HaveOneSigns ks) kept_is c.in_ok-steps.ensures.signs in
    let after = steps_of c.report_turns.new.steps.items in
    let told : IsInstallText c.args.catalogue.now c.args.request.now.lines c.as_slice-5.result.now after c.in_ok-text.text.items =
    subst (λ (ss : List Step). IsInstallText c.args.catalogue.now c.args.request.now.lines c.as_slice-5.result.now (steps_of ss) c.in_ok-text.text.items) c.as_slice-6.ensures.value c.in_ok-text.ensures in
    let report = Install told.0 after in (
      told.0,
      after,
      told.1,
      installed_reported c.args.catalogue.now c.args.request.now c.args.provider.now c.args.wishes.items asks c.args.found.solvables.now c.args.found.turns.now proof is wanted (subst (λ (ws : List ℕ). AreWanted c.args.found.turns.now ws) (sym c.as_slice.ensures.value) c.in_ok-wanted.ensures.steps)
          c.as_slice-2.result.now c.as_slice-4.result.now trimmed stays one_place one_sign (steps_of c.in_ok-written.written.items) c.in_ok-written.ensures.steps c.as_slice-3.result.now (c.as_slice-3.ensures.value ∙ c.in_ok-chosen.ensures) t rest after first_turn matched report
          (subst (λ (ts : List Turn). Serve c.args.catalogue.now c.args.request.now.lines ts after → IsInstallOf c.args.catalogue.now c.args.request.now.lines ts after report) turns_are told.2),
    )
