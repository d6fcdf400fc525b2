use Rattle.std.proofs.Common.{arith, ◌<◌, length}
use Rattle.std.proofs.lemmas.Result.{err_from_is_err_and}
use Rattle.std.proofs.lemmas.Grind.{common_steps}
use Rattle.std.proofs.lemmas.Bool.Decides.{nat_tests}
use Rattle.resolvo_report.proofs.ClauseLemmas.{no_word}
use Rattle.resolvo_report.proofs.parse.numbers_in.Goals as goal

pub returns-in_err-word : goal.returns-in_err-word
returns-in_err-word c =
    let p = err_from_is_err_and c.from_residual.result c.from_residual.ensures.1 in
    let some : 0 < length c.loop-rest.rest.now = grind (arith, common_steps, nat_tests) in
    rw (p.1, p.2) (no_word c.in_err-word.field-0.0 c.loop-rest.rest.now _ some c.in_err-word.ensures.words)
