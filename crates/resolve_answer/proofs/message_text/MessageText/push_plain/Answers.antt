use Rattle.std.proofs.Common.{sym, ◌∙◌}
use Rattle.resolve_answer.proofs.MarkLemmas.{marks_empty, marks_plain}
use Rattle.resolve_answer.proofs.message_text.MessageText.push_plain.Goals as goal

pub returns-then-is_empty-clause-pushed : goal.returns-then-is_empty-clause-pushed
returns-then-is_empty-clause-pushed c = marks_empty c.args.self.now.begins c.args.self.now.bytes.items c.args.bytes.now (sym c.is_empty.ensures ∙ c.if-is_empty.true)

pub returns-clause-pushed : goal.returns-clause-pushed
returns-clause-pushed c =
    marks_plain c.args.self.now.begins _ c.args.bytes.now c.args.self.now.bytes.items _ _ c.requires (sym c.is_empty.ensures ∙ c.if-is_empty.false) c.in_ok-begin.ensures.sign c.in_ok-begin.ensures.begun c.in_ok-extend_from_slice.ensures.items
