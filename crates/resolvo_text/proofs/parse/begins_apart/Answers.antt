use Rattle.std.proofs.Common.{sym, arith}
use Rattle.resolvo_text.proofs.BeginLemmas.{skip_apart}
use Rattle.resolvo_text.proofs.parse.begins_apart.Goals as goal

pub returns-in-Some-first : goal.returns-in-Some-first
returns-in-Some-first c = λ apart. skip_apart c.args.word.now c.args.words.now c.in-Some.next.now c.in-Some-first.first.now c.in-Some.ensures.lookup.3.0 c.in-Some.ensures.lookup.1 (sym c.in-Some-first.ensures.value) (λ same. grind arith)
