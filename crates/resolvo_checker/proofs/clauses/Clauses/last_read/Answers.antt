use Rattle.std.proofs.Common.{◌≤◌, length, sym, arith}
use Rattle.std.proofs.lemmas.Bool.Decides.{nat_tests}
use Rattle.resolvo_checker.proofs.PieceLemmas.{no_literals_past}
use Rattle.resolvo_checker.proofs.clauses.Clauses.last_read.Goals as goal

pub returns-else-self-len : goal.returns-else-self-len
returns-else-self-len c =
    let past : length c.args.self.now.kept ≤ c.args.self.now.last = grind (arith, nat_tests) in
    sym (no_literals_past c.args.self.now.kept c.args.self.now.last past)
