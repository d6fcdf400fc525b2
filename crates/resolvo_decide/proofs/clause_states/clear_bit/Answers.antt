use Rattle.std.proofs.Common.{arith}
use Rattle.resolvo_decide.proofs.MarkLemmas.{bit_clear}
use Rattle.resolvo_decide.proofs.clause_states.clear_bit.Goals as goal

pub returns-then-block-marks-clause-others : goal.returns-then-block-marks-clause-others
returns-then-block-marks-clause-others c = bit_clear c.args.marks.now c.args.position (omega (arith, c.if-block-marks.true))
