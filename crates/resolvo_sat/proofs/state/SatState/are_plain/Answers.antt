use Rattle.std.proofs.Common.{◌≡◌, ◌≤◌, ◌<◌, ◌^◌, false, length, subst, arith}
use Rattle.resolvo_store_core.specs.Signed.{Signed, negation, has}
use Rattle.resolvo_sat.specs.Entries.{made_true}
use Rattle.resolvo_sat.specs.State.{history, count_of}
use Rattle.resolvo_sat.proofs.TieLemmas.{plain_more}
use Rattle.resolvo_sat.proofs.state.SatState.are_plain.Goals as goal

pub new-first-requires : goal.new-first-requires
new-first-requires c =
    let small : count_of c.args.self.now < 2 ^ 31 = c.requires.state.small in
    let low : c.args.variable.0 < count_of c.args.self.now = c.requires.variable in
    omega arith

pub is_plain_digit-requires-clause-digit : goal.is_plain_digit-requires-clause-digit
is_plain_digit-requires-clause-digit c = c.requires.digits c.loop-digit.digit-index c.loop-digit-test.true

pub loop-digit-preserved : goal.loop-digit-preserved
loop-digit-preserved c = plain_more (made_true (history c.args.self.now)) c.args.variable c.args.digits.now c.loop-digit.digit-index c.loop-digit.invariant (c.is_plain_digit.ensures c.if-not-is_plain_digit.false)

pub returns : goal.returns
returns c = λ _. record {
  first = subst (λ (l : Signed). has (made_true (history c.args.self.now)) (negation l) ≡ false) c.new-first.ensures (c.is_free-is_free.ensures c.if-not-is_free.false);
  each = λ i h. c.loop-digit.invariant i (let past : length c.args.digits.now ≤ c.loop-digit.digit-index = c.loop-digit-test.false in omega arith);
}
