use Rattle.resolve_answer.proofs.MarkLemmas.{marks_byte}
use Rattle.resolve_answer.proofs.message_text.MessageText.push.Goals as goal

pub returns-clause-pushed : goal.returns-clause-pushed
returns-clause-pushed c = marks_byte c.args.self.now.begins c.args.byte c.args.self.now.bytes.items _ _ c.in_ok-begin.ensures.sign c.in_ok-push.ensures.items
