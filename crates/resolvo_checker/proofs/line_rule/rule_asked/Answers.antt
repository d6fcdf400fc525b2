use Rattle.std.proofs.Common.{ap, ◌∙◌}
use Rattle.resolvo_checker.specs.RuleLines.{owned_line}
use Rattle.resolvo_checker.proofs.RuleLineLemmas.{request_rule_encodes, request_rule_unowned, none_owned}
use Rattle.resolvo_checker.proofs.line_rule.rule_asked.Goals as goal

pub returns-in-Some-clause-from_line : goal.returns-in-Some-clause-from_line
returns-in-Some-clause-from_line c = λ vs. let s = c.in-Some.ensures.of_line in ap owned_line s.1 ∙ request_rule_encodes vs c.in-Some.rule.now s.0 s.2

pub returns-in-Some-clause-none : goal.returns-in-Some-clause-none
returns-in-Some-clause-none c = let s = c.in-Some.ensures.of_line in request_rule_unowned c.in-Some.rule.now s.0 s.2

pub returns-in-None-clause-from_line : goal.returns-in-None-clause-from_line
returns-in-None-clause-from_line c = λ vs. none_owned _ c.in-None.ensures.none
