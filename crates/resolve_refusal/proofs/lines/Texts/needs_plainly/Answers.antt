use Rattle.std.proofs.Common.{[], None, refl}
use Rattle.resolvo_text.specs.Line.{Needs}
use Rattle.resolvo_text.specs.View.{specs_of}
use Rattle.resolve_refusal.proofs.FindLemmas.{decides_at, no_rule_at}
use Rattle.resolve_refusal.proofs.lines.Texts.needs_plainly.Goals as goal

pub returns-in-Some-rule : goal.returns-in-Some-rule
returns-in-Some-rule c =
    let (l, at, states) = c.in-Some-rule.ensures.of_line in
    rw c.in-None.is (decides_at c.args.self.request.now.lines c.args.line c.in-Some-rule.rule.now (Needs (specs_of c.args.alternatives.now) None) c.is_plain_need.result (l, [], None, at, states []) c.is_plain_need.ensures)

pub returns-in-None-rule : goal.returns-in-None-rule
returns-in-None-rule c = rw c.in-None.is (no_rule_at c.args.self.request.now.lines c.args.line (Needs (specs_of c.args.alternatives.now) None) refl c.in-None-rule.ensures.none)
