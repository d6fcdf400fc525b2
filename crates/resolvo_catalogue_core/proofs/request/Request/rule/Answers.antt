use Rattle.std.proofs.Common.{sym, ◌∙◌, ap}
use Rattle.std.specs.Option.{option_copied}
use Rattle.resolvo_catalogue_core.specs.Questions.{ReadRequest}
use Rattle.resolvo_catalogue_core.proofs.CatalogueFacts.{some_then, none_then}
use Rattle.resolvo_catalogue_core.proofs.AskSteps.{asked_rule, no_rule}
use Rattle.resolvo_catalogue_core.proofs.request.Request.rule.Goals as goal

pub returns-clause-of_line : goal.returns-clause-of_line
returns-clause-of_line c = some_then c.rule.result (λ r is. asked_rule c.self.inside.asks c.args.self.now.lines (ap (λ (s : ReadRequest). s.lines) c.self.view_is) c.self.invariant.0 c.args.line r.now (sym c.rule.ensures ∙ ap option_copied is))

pub returns-clause-none : goal.returns-clause-none
returns-clause-none c = none_then c.rule.result (λ is. no_rule c.self.inside.asks c.args.self.now.lines (ap (λ (s : ReadRequest). s.lines) c.self.view_is) c.args.line (sym c.rule.ensures ∙ ap option_copied is))
