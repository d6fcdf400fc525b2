use Rattle.std.proofs.Common.{◌*◌, ◌+◌, arith}
use Rattle.resolvo_text.proofs.SpaceLemmas.{first_space, one_more, two_more, three_more}
use Rattle.resolvo_text.proofs.parse.space_in.Goals as goal

pub returns-then-text-at-eq32 : goal.returns-then-text-at-eq32
returns-then-text-at-eq32 c = first_space c.args.text.now (c.loop-four.four * 4) c.loop-four.invariant (omega (arith, c.loop-four-test.true)) c.if-text-at-eq32.true

pub returns-then-text-at-eq32-2 : goal.returns-then-text-at-eq32-2
returns-then-text-at-eq32-2 c =
    first_space c.args.text.now (c.loop-four.four * 4 + 1) (one_more c.args.text.now (c.loop-four.four * 4) c.loop-four.invariant c.if-text-at-eq32.false) (omega (arith, c.loop-four-test.true)) c.if-text-at-eq32-2.true

pub returns-then-text-at-eq32-3 : goal.returns-then-text-at-eq32-3
returns-then-text-at-eq32-3 c =
    first_space c.args.text.now (c.loop-four.four * 4 + 2) (two_more c.args.text.now (c.loop-four.four * 4) c.loop-four.invariant c.if-text-at-eq32.false c.if-text-at-eq32-2.false) (omega (arith, c.loop-four-test.true)) c.if-text-at-eq32-3.true

pub returns-then-text-at-eq32-4 : goal.returns-then-text-at-eq32-4
returns-then-text-at-eq32-4 c =
    first_space c.args.text.now (c.loop-four.four * 4 + 3) (three_more c.args.text.now (c.loop-four.four * 4) c.loop-four.invariant c.if-text-at-eq32.false c.if-text-at-eq32-2.false c.if-text-at-eq32-3.false) (omega (arith, c.loop-four-test.true)) c.if-text-at-eq32-4.true
