use Rattle.std.proofs.Common.{◌++◌, ◌∙◌, List, append-nil, ap, sym}
use Rattle.std.specs.String.{string_bytes}
use Rattle.std.proofs.lemmas.List.{take_all}
use Rattle.resolvo_text.specs.declared.spec.Spec.{Spec}
use Rattle.resolvo_text.specs.View.{specs_of}
use Rattle.resolve_refusal.specs.RuleKeys.{barred_texts}
use Rattle.resolve_refusal.proofs.FirstLemmas.{specs_more}
use Rattle.resolve_refusal.proofs.rule_keys.with_specs.Goals as goal

pub loop-spec-preserved : goal.loop-spec-preserved
loop-spec-preserved c = specs_more c.args.start.now (string_bytes c.loop-spec.text) (string_bytes c.push_spec.new.text) c.args.specs.now c.loop-spec.spec-index c.spec-item.result c.loop-spec-test.true c.spec-item.is c.loop-spec.invariant c.in_ok-push_spec.ensures.pushed

pub loop-spec-init : goal.loop-spec-init
loop-spec-init c = c.in_ok-text.ensures.ok ∙ sym (append-nil c.args.start.now)

pub returns-clause-text : goal.returns-clause-text
returns-clause-text c = c.loop-spec.invariant ∙ ap (λ (ss : List Spec). c.args.start.now ++ barred_texts (specs_of ss)) (take_all c.loop-spec.spec-index c.args.specs.now c.loop-spec-test.false)
