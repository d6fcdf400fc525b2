use Rattle.std.proofs.Common.{◌++◌, ◌∙◌, ℕ, List, map, ap}
use Rattle.resolvo_text.specs.Line.{Spec}
use Rattle.resolvo_text.specs.View.{cases_of}
use Rattle.resolve_refusal.specs.RuleKeys.{barred_texts}
use Rattle.resolve_refusal.proofs.rule_keys.need_keys.Goals as goal

pub returns-clause-keys : goal.returns-clause-keys
returns-clause-keys c = c.in_ok-keys.ensures.keys ∙ ap (λ (t : List ℕ). map (λ (case : List Spec). t ++ barred_texts case) (cases_of c.args.cases.now)) (c.as_str.ensures.value ∙ c.in_ok-group.ensures.text)
