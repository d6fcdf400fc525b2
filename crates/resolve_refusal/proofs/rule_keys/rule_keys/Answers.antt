use Rattle.std.proofs.Common.{◌∙◌, map, ap, subst, sym}
use Rattle.std.specs.BTreeMap.{get_by_text}
use Rattle.std.specs.String.{string_bytes}
use Rattle.resolvo_text.specs.View.{specs_of, cases_of, list_of}
use Rattle.resolvo_catalogue_core.specs.Questions.{IsRuleLine}
use Rattle.resolvo_catalogue_core.specs.declared.rule.Rule.{Rule}
use Rattle.resolve_refusal.specs.RuleKeys.{line_keys}
use Rattle.resolve_refusal.proofs.FirstLemmas.{need_keys_are}
use Rattle.resolve_refusal.proofs.rule_keys.rule_keys.Goals as goal

pub returns-in_ok-of_need-in-Needs-clause-keys : goal.returns-in_ok-of_need-in-Needs-clause-keys
returns-in_ok-of_need-in-Needs-clause-keys c = λ versions owner line of_rule.
    let states = subst (λ (r : Rule). IsRuleLine versions r owner line) c.in-Needs.is of_rule in
    need_keys_are (λ q. get_by_text c.args.groups.now q) (specs_of c.as_slice.result.now) (specs_of (list_of c.in-Needs.alternatives)) _ (cases_of c.as_slice-in-Needs.result.now) line (map string_bytes c.in_ok-of_need-in-Needs.of_need.items)
    c.in_ok-of_need-in-Needs.ensures.keys (ap specs_of c.as_slice.ensures) (ap cases_of c.as_slice-in-Needs.ensures.value ∙ c.in_ok-cases-in-Needs.ensures versions owner line of_rule) states.0

pub returns-in_ok-of_limit-in-Limits-clause-keys : goal.returns-in_ok-of_limit-in-Limits-clause-keys
returns-in_ok-of_limit-in-Limits-clause-keys c = λ versions owner line of_rule.
    let states = subst (λ (r : Rule). IsRuleLine versions r owner line) c.in-Limits.is of_rule in
    c.in_ok-of_limit-in-Limits.ensures.keys ∙ sym (ap (line_keys (λ q. get_by_text c.args.groups.now q)) states.0)
