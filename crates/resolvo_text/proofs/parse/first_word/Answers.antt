use Rattle.std.proofs.Common.{sym}
use Rattle.resolvo_text.proofs.WordLemmas.{first_word_ends, only_word}
use Rattle.resolvo_text.proofs.parse.first_word.Goals as goal

pub returns-in-Some-clause-words : goal.returns-in-Some-clause-words
returns-in-Some-clause-words c = first_word_ends c.args.text.now c.in-Some.end (sym c.in-Some.ensures)

pub returns-in-None-clause-words : goal.returns-in-None-clause-words
returns-in-None-clause-words c = only_word c.args.text.now (sym c.in-None.ensures)
