use Rattle.std.proofs.Common.{ap, ◌∙◌}
use Rattle.std.specs.Option.{option_and_then}
use Rattle.resolvo_catalogue_core.specs.Listed.{listed}
use Rattle.resolvo_report.specs.View.{place_of}
use Rattle.resolvo_checker.specs.StepClauses.{line_of}
use Rattle.resolvo_checker.specs.RuleLines.{line_of_rule, owned_line}
use Rattle.resolvo_checker.proofs.line_rule.rule_at.Goals as goal

pub returns-in-None-clause-from_line : goal.returns-in-None-clause-from_line
returns-in-None-clause-from_line c = ap (λ p. owned_line (line_of c.args.catalogue.now c.args.request.now.lines (place_of p) c.args.line)) c.in-Request.is ∙ c.in-None.ensures.from_line (listed c.args.catalogue.now)

pub returns-in-Some-2-clause-from_line : goal.returns-in-Some-2-clause-from_line
returns-in-Some-2-clause-from_line c =
    ap (λ p. owned_line (line_of c.args.catalogue.now c.args.request.now.lines (place_of p) c.args.line)) c.in-Version.is
    ∙ (c.in_ok-rule-in-Version.ensures.from_line c.args.request.now.lines ∙ ap (option_and_then (line_of_rule (listed c.args.catalogue.now))) c.in-Some-2.is)

pub returns-in-None-2-clause-from_line : goal.returns-in-None-2-clause-from_line
returns-in-None-2-clause-from_line c =
    ap (λ p. owned_line (line_of c.args.catalogue.now c.args.request.now.lines (place_of p) c.args.line)) c.in-Version.is
    ∙ (c.in_ok-rule-in-Version.ensures.from_line c.args.request.now.lines ∙ ap (option_and_then (line_of_rule (listed c.args.catalogue.now))) c.in-None-2.is)
