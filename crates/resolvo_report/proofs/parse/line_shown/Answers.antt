use Rattle.std.proofs.Common.{sym, ◌∙◌}
use Rattle.resolvo_report.proofs.ShownLemmas.{message_is, shows_message}
use Rattle.resolvo_report.proofs.parse.line_shown.Goals as goal

pub returns-then-is_some : goal.returns-then-is_some
returns-then-is_some c = shows_message c.args.keeps c.args.text.now c.new.result.items c.if-not-keeps.true
    (message_is (λ m. m.now) c.args.text.now c.message_in.result c.message_in.ensures (sym c.is_some.ensures ∙ c.if-is_some.true))
    c.new.ensures.items
