use Rattle.std.proofs.Common.{Bool, true, ◌&&◌, List, refl, sym, ◌∙◌, ap, subst, arith}
use Rattle.std.specs.Prelude.{◌==◌}
use Rattle.std.proofs.lemmas.Bool.{and_parts, and_from, eqb-true, eq-eqb}
use Rattle.resolvo_sat.specs.RuleClauses.{IsExact}
use Rattle.resolvo_proof.specs.Offered.{offered_by}
use Rattle.resolvo_proof.specs.declared.step.ProofStep.{ProofStep}
use Rattle.resolvo_terms.specs.Terms.{NameId}
use Rattle.resolvo_catalogue.specs.Ids.{SolvableId}
use Rattle.resolvo_catalogue.specs.Provider.{Provider}
use Rattle.resolve_refusal.specs.Refusal.{Refutes}
use Rattle.resolve_refusal.specs.Parts.{IsRefusalOf, report_with}
use Rattle.resolvo.specs.Solver.{Kept}
use Rattle.resolve_answer.specs.Message.{IsTextOf}
use Rattle.resolve_answer.proofs.AnswerLemmas.{refusal_told}
use Rattle.resolve_answer.proofs.Upheld.{IsTold, taken_reported}
use Rattle.resolve_answer.proofs.answer.refused.Goals as goal

abbrev Steps : Type 0
Steps = List (ProofStep NameId SolvableId)

-- the tests of ids that the calls run; that of names is exact
abbrev same : SolvableId → SolvableId → Bool
same x y = (x.raw == y.raw) && true

abbrev same_name : NameId → NameId → Bool
same_name x y = (x.raw == y.raw) && true

one_name : IsExact same_name
one_name = record { one = λ x y h. ap (λ k. record { raw = k; tag = record {} }) (eqb-true x.raw y.raw (and_parts (x.raw == y.raw) true h).0); own = λ x. and_from (x.raw == x.raw) true (eq-eqb x.raw x.raw refl) refl }

pub returns-in-Some-clause-report : goal.returns-in-Some-clause-report
returns-in-Some-clause-report c = λ asks is.
    let steps = c.in_ok-steps in
    let kept = steps.steps.items in
    let solver = c.args.solver.now in
    let refusal = c.in_ok-refusal.refusal in
    let (l, there, listed) = c.requires in
    let (message, shown, is_text) = rw c.in-Some.is at c.in_ok-message.ensures.fits in
    let text : IsTextOf same_name same solver.provider (offered_by l.offers) solver.proof message = is_text l there in
    let reports : Refutes c.args.catalogue.now c.args.request.now solver.provider kept → IsRefusalOf c.args.catalogue.now c.args.request.now.lines solver.provider.ids kept refusal =
    subst (λ (p : Provider). Refutes c.args.catalogue.now c.args.request.now p kept → IsRefusalOf c.args.catalogue.now c.args.request.now.lines p.ids kept refusal) (c.provider.ensures ∙ ap (λ (k : Kept Provider NameId SolvableId). k.provider) c.take_proof.ensures.left)
    (subst (λ (xs : Steps). Refutes c.args.catalogue.now c.args.request.now c.provider.result.now xs → IsRefusalOf c.args.catalogue.now c.args.request.now.lines c.provider.result.now.ids xs refusal) c.as_slice.ensures.value c.in_ok-refusal.ensures.refusal) in
    let told : IsTold c.args.catalogue.now c.args.request.now.lines message refusal =
    taken_reported c.args.catalogue.now c.args.request.now same solver asks is c.take_proof.result.items c.take_proof.ensures.steps kept steps.ensures.kept steps.ensures.named steps.ensures.proof steps.ensures.empty steps.ensures.places steps.ensures.signs refusal reports
    same_name one_name l there message text in
    refusal_told c.args.catalogue.now c.args.request.now.lines refusal message _ (c.in_ok-told-in-Some.ensures message shown) told.0

pub returns-clause-stop : goal.returns-clause-stop
returns-clause-stop c = λ asks is.
    let steps = c.in_ok-steps in
    let kept = steps.steps.items in
    let solver = c.args.solver.now in
    let refusal = c.in_ok-refusal.refusal in
    let (l, there, listed) = c.requires in
    let (message, text, long) = c.in_ok-message.ensures.long c.in-None.is l there in
    let reports : Refutes c.args.catalogue.now c.args.request.now solver.provider kept → IsRefusalOf c.args.catalogue.now c.args.request.now.lines solver.provider.ids kept refusal =
    subst (λ (p : Provider). Refutes c.args.catalogue.now c.args.request.now p kept → IsRefusalOf c.args.catalogue.now c.args.request.now.lines p.ids kept refusal) (c.provider.ensures ∙ ap (λ (k : Kept Provider NameId SolvableId). k.provider) c.take_proof.ensures.left)
    (subst (λ (xs : Steps). Refutes c.args.catalogue.now c.args.request.now c.provider.result.now xs → IsRefusalOf c.args.catalogue.now c.args.request.now.lines c.provider.result.now.ids xs refusal) c.as_slice.ensures.value c.in_ok-refusal.ensures.refusal) in
    let told : IsTold c.args.catalogue.now c.args.request.now.lines message refusal =
    taken_reported c.args.catalogue.now c.args.request.now same solver asks is c.take_proof.result.items c.take_proof.ensures.steps kept steps.ensures.kept steps.ensures.named steps.ensures.proof steps.ensures.empty steps.ensures.places steps.ensures.signs refusal reports
    same_name one_name l there message text in
    (report_with message refusal, told.0, omega (arith, long, told.1))
