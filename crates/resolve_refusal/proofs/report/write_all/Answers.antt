use Rattle.std.proofs.Common.{◌≡◌, ◌+◌, ◌∷◌, ◌++◌, [], sym, ◌∙◌, subst, ap, take, map, List}
use Rattle.std.specs.List.{AllZip}
use Rattle.std.proofs.lemmas.List.{take_more, map-append}
use Rattle.indexmap.proofs.SetLemmas.{AllZip-push}
use Rattle.resolvo_terms.specs.Terms.{NameId}
use Rattle.resolvo_catalogue.specs.Ids.{SolvableId}
use Rattle.resolvo_proof.specs.declared.step.ProofStep.{ProofStep}
use Rattle.resolvo_report.specs.Value.{Step as ReadRequest}
use Rattle.resolvo_report.specs.View.{step_of, steps_of}
use Rattle.resolve_refusal.specs.RefusedReport.{IsWritten}
use Rattle.resolve_refusal.specs.StepRules.{NamesRule}
use Rattle.resolve_refusal.proofs.report.write_all.Goals as goal

pub loop-step-preserved : goal.loop-step-preserved
loop-step-preserved c =
    let xs = c.args.steps.now in
    let i = c.loop-step.step-index in
    let s = c.step-item.result in
    let old = c.loop-step.written.items in
    let more : take i xs ++ s ∷ [] ≡ take (i + 1) xs = sym (take_more xs i s c.loop-step-test.true ∙ ap (λ (x : ProofStep NameId SolvableId). take i xs ++ x ∷ []) (sym c.step-item.is)) in
    let pushed : steps_of old ++ step_of c.in_ok-step.field-0 ∷ [] ≡ steps_of c.push.new.self.items = sym (ap (map step_of) c.in_ok-push.ensures.items ∙ map-append step_of old (c.in_ok-step.field-0 ∷ [])) in
    let one : (is : ProofStep NameId SolvableId → ReadRequest → Type 0) → AllZip is (take i xs) (steps_of old) → is s (step_of c.in_ok-step.field-0) → AllZip is (take (i + 1) xs) (steps_of c.push.new.self.items) =
    λ is before here. subst (λ (ys : List (ProofStep NameId SolvableId)). AllZip is ys (steps_of c.push.new.self.items)) more
    (subst (λ (zs : List ReadRequest). AllZip is (take i xs ++ s ∷ []) zs) pushed (AllZip-push is (take i xs) (steps_of old) s (step_of c.in_ok-step.field-0) before here)) in (
      one (NamesRule c.args.writing.texts.catalogue.now c.args.writing.texts.request.now.lines c.args.writing.provider.now.ids) c.loop-step.invariant.0 c.in_ok-step.ensures.names_rule,
      one (IsWritten c.args.writing.texts.catalogue.now c.args.writing.provider.now.ids) c.loop-step.invariant.1 c.in_ok-step.ensures.written,
    )
