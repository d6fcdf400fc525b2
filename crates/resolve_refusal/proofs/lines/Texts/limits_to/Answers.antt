use Rattle.std.proofs.Common.{[], None, refl}
use Rattle.resolvo_text.specs.Line.{Limits}
use Rattle.resolvo_text.specs.View.{spec_of}
use Rattle.resolve_refusal.proofs.FindLemmas.{decides_at, no_rule_at}
use Rattle.resolve_refusal.proofs.lines.Texts.limits_to.Goals as goal

pub returns-in-Some-rule : goal.returns-in-Some-rule
returns-in-Some-rule c =
    let (l, at, states) = c.in-Some-rule.ensures.of_line in
    rw c.in-None.is (decides_at c.args.self.request.now.lines c.args.line c.in-Some-rule.rule.now (Limits (spec_of c.args.spec.now)) c.is_limit.result (l, [], None, at, states []) c.is_limit.ensures)

pub returns-in-None-rule : goal.returns-in-None-rule
returns-in-None-rule c = rw c.in-None.is (no_rule_at c.args.self.request.now.lines c.args.line (Limits (spec_of c.args.spec.now)) refl c.in-None-rule.ensures.none)
