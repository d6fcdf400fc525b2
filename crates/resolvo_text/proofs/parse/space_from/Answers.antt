use Rattle.std.proofs.Common.{arith}
use Rattle.resolvo_text.proofs.SpaceLemmas.{first_space, no_space}
use Rattle.resolvo_text.proofs.parse.space_from.Goals as goal

pub returns-then-text-at-eq32 : goal.returns-then-text-at-eq32
returns-then-text-at-eq32 c = first_space c.args.text.now c.loop-at.at c.loop-at.invariant (omega (arith, c.loop-at-test.true)) c.if-text-at-eq32.true

pub returns : goal.returns
returns c = no_space c.args.text.now c.loop-at.at c.loop-at.invariant (omega (arith, c.loop-at-test.false))
