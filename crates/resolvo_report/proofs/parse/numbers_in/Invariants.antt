use Rattle.std.proofs.Common.{◌≡◌, length}
use Rattle.resolvo_text.specs.Parse.{words_in}
use Rattle.resolvo_report.specs.Parse.{numbers_in}
use Rattle.resolvo_report.proofs.ClauseLemmas.{with_numbers}
use Rattle.resolvo_report.proofs.parse.numbers_in.Given as goal

abbrev pub invariant-loop-rest : goal.invariant-loop-rest
invariant-loop-rest l = with_numbers l.numbers.items (numbers_in (words_in l.rest)) ≡ numbers_in (words_in l.fn.words)

abbrev pub decreases-loop-rest : goal.decreases-loop-rest
decreases-loop-rest l = length l.rest
