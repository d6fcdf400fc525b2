use Rattle.std.proofs.Common.{arith}
use Rattle.resolvo_text.proofs.BeginLemmas.{span_apart}
use Rattle.resolvo_text.proofs.parse.begins_without_digit.Goals as goal

pub returns-in-Some : goal.returns-in-Some
returns-in-Some c = λ none. span_apart c.args.words.now c.in-Some.first.now c.in-Some.ensures.lookup.3.0 c.in-Some.ensures.lookup.1 (grind arith)
