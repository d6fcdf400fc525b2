use Rattle.std.proofs.Common.{◌++◌, ◌∙◌, ℕ, List, ap}
use Rattle.resolvo_text.specs.View.{specs_of}
use Rattle.resolve_refusal.specs.RuleKeys.{barred_texts}
use Rattle.resolve_refusal.proofs.rule_keys.need_key.Goals as goal

pub returns-clause-key : goal.returns-clause-key
returns-clause-key c = c.in_ok-key.ensures.text ∙ ap (λ (t : List ℕ). t ++ barred_texts (specs_of c.args.case.now)) (c.as_str.ensures.value ∙ c.in_ok-group.ensures.text)
