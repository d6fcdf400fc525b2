use Rattle.std.proofs.Common.{arith}
use Rattle.resolvo_decide.proofs.MarkLemmas.{bit_out, bit_set, bit_set_others}
use Rattle.resolvo_decide.proofs.clause_states.set_bit.Goals as goal

pub returns-then-block-marks-clause-set : goal.returns-then-block-marks-clause-set
returns-then-block-marks-clause-set c = bit_set c.args.marks.now c.args.position (omega (arith, c.if-block-marks.true))

pub returns-then-block-marks-clause-others : goal.returns-then-block-marks-clause-others
returns-then-block-marks-clause-others c = bit_set_others c.args.marks.now c.args.position (omega (arith, c.if-block-marks.true))

pub returns-else-block-marks-clause-set : goal.returns-else-block-marks-clause-set
returns-else-block-marks-clause-set c = bit_out c.args.marks.now c.args.position (omega (arith, c.if-block-marks.false))
