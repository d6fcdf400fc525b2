use Rattle.std.proofs.Common.{arith}
use Rattle.std.proofs.lemmas.Bool.Decides.{nat_tests}
use Rattle.resolvo_text.proofs.WordLemmas.{not_at_end}
use Rattle.resolvo_text.proofs.parse.no_more.Goals as goal

pub returns-else-is_empty : goal.returns-else-is_empty
returns-else-is_empty c = not_at_end c.args.words.now (grind (arith, nat_tests))
