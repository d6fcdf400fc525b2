use Rattle.std.proofs.Common.{sym, ◌∙◌}
use Rattle.resolvo_catalogue_core.proofs.CatalogueFacts.{rule_in_text, no_rule}
use Rattle.resolvo_catalogue_core.proofs.catalogue.Catalogue.rule.Goals as goal

pub returns-in_ok-in_text-in-Some-clause-of_line :
    goal.returns-in_ok-in_text-in-Some-clause-of_line
returns-in_ok-in_text-in-Some-clause-of_line c =
    let text = c.in_ok-in_text-in-Some in
    rule_in_text c.self.inside.table c.args.self.now c.self.view_is c.self.invariant.0 c.args.line c.in-Some.rule (sym c.rule-kept.ensures ∙ c.in-Some.is) text.field-0 text.ensures

pub returns-in-None-clause-none : goal.returns-in-None-clause-none
returns-in-None-clause-none c = no_rule c.self.inside.table c.args.self.now c.self.view_is c.args.line (sym c.rule-kept.ensures ∙ c.in-None.is)
