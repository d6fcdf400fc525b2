use Rattle.resolve_answer.proofs.PlainLemmas.{plain_if_none}
use Rattle.resolve_answer.proofs.message_text.is_plain.Goals as goal

pub returns-in-None : goal.returns-in-None
returns-in-None c = λ _. plain_if_none c.args.bytes.now c.memchr.result c.memchr.ensures c.in-None.is
