use Rattle.std.proofs.Common.{arith}
use Rattle.resolvo_decide.proofs.MarkLemmas.{none_left, first_left}
use Rattle.resolvo_decide.proofs.clause_states.first_bit.Goals as goal

pub returns-then-rest-eq0-clause-passed : goal.returns-then-rest-eq0-clause-passed
returns-then-rest-eq0-clause-passed c = λ j above below. none_left c.args.word c.args.from (omega (arith, c.if-rest-eq0.true)) j above

pub returns-else-rest-eq0-clause-within : goal.returns-else-rest-eq0-clause-within
returns-else-rest-eq0-clause-within c = (first_left c.args.word c.args.from c.ranges.word.fits (omega (arith, c.if-rest-eq0.false))).0

pub returns-else-rest-eq0-clause-passed : goal.returns-else-rest-eq0-clause-passed
returns-else-rest-eq0-clause-passed c = (first_left c.args.word c.args.from c.ranges.word.fits (omega (arith, c.if-rest-eq0.false))).1
