use Rattle.std.proofs.Common.{[], None}
use Rattle.resolvo_judge.proofs.NamedLemmas.{is_rule_line, rule_line_at}
use Rattle.resolvo_judge.proofs.named_lines.is_rule.Goals as goal

pub returns-in-Some : goal.returns-in-Some
returns-in-Some c = let s = c.in-Some.ensures.of_line in rule_line_at _ s.0 s.1 (is_rule_line [] c.in-Some.field-0.now None s.0 (s.2 []))
