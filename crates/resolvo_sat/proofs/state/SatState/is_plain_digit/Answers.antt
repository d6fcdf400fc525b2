use Rattle.std.proofs.Common.{◌≡◌, ◌<◌, ◌^◌, false, subst, arith}
use Rattle.resolvo_store_core.specs.Signed.{Signed, negation, has}
use Rattle.resolvo_sat.specs.Entries.{made_true}
use Rattle.resolvo_sat.specs.State.{history, count_of}
use Rattle.resolvo_sat.proofs.TieLemmas.{plain_digit}
use Rattle.resolvo_sat.proofs.state.SatState.is_plain_digit.Goals as goal

pub new-zero-requires : goal.new-zero-requires
new-zero-requires c =
    let small : count_of c.args.self.now < 2 ^ 31 = c.requires.state.small in
    let low : c.args.digit.0 < count_of c.args.self.now = c.requires.digit in
    omega arith

pub new-one-requires : goal.new-one-requires
new-one-requires c =
    let small : count_of c.args.self.now < 2 ^ 31 = c.requires.state.small in
    let low : c.args.digit.0 < count_of c.args.self.now = c.requires.digit in
    omega arith

pub returns : goal.returns
returns c = λ h.
    let known = made_true (history c.args.self.now) in
    plain_digit known c.args.variable c.args.digit (λ e. omega arith)
    (subst (λ (l : Signed). has known (negation l) ≡ false) c.new-zero.ensures (c.is_free-can_be_zero.ensures c.if-not-can_be_zero.false))
    (subst (λ (l : Signed). has known (negation l) ≡ false) c.new-one.ensures (c.is_free.ensures h))
