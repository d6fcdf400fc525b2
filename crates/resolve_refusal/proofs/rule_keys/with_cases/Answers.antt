use Rattle.std.proofs.Common.{◌++◌, ◌∙◌, ap, map, List, Vec, Global}
use Rattle.std.specs.String.{string_bytes}
use Rattle.resolvo_text.specs.declared.spec.Spec.{Spec}
use Rattle.resolvo_text.specs.View.{specs_of}
use Rattle.resolve_refusal.specs.RuleKeys.{barred_texts}
use Rattle.std.proofs.lemmas.List.{take_all}
use Rattle.resolve_refusal.proofs.FirstLemmas.{mapped_more, cases_texts}
use Rattle.resolve_refusal.proofs.rule_keys.with_cases.Goals as goal

pub loop-case-preserved : goal.loop-case-preserved
loop-case-preserved c = mapped_more string_bytes (λ (case : Vec Spec Global). c.args.start.now ++ barred_texts (specs_of case.items)) c.loop-case.keys.items c.push.new.self.items c.args.cases.now c.loop-case.case-index c.in_ok-with_specs.field-0 c.case-item.result c.loop-case-test.true c.case-item.is c.loop-case.invariant c.in_ok-push.ensures.items
    (c.in_ok-with_specs.ensures.text ∙ ap (λ (ss : List Spec). c.args.start.now ++ barred_texts (specs_of ss)) c.as_slice.ensures.value)

pub returns-clause-keys : goal.returns-clause-keys
returns-clause-keys c =
    c.loop-case.invariant
    ∙ (ap (map (λ (case : Vec Spec Global). c.args.start.now ++ barred_texts (specs_of case.items))) (take_all c.loop-case.case-index c.args.cases.now c.loop-case-test.false) ∙ cases_texts c.args.start.now c.args.cases.now)
