use Rattle.std.proofs.Common.{subst}
use Rattle.resolvo_sat.specs.Pending.{AreSettled}
use Rattle.resolvo_sat.proofs.StartLemmas.{settles_all, settles_anew}
use Rattle.resolvo_sat.proofs.state.SatState.settle_pending.Goals as goal

pub returns-then-are_settled : goal.returns-then-are_settled
returns-then-are_settled c =
    settles_all c.args.self.now c.are_settled.new.self c.args.watching.now c.clear.new.self c.requires.ready c.requires.within
    (subst (AreSettled c.args.watching.now c.args.self.now c.are_settled.new.self) c.if-are_settled.true c.are_settled.ensures) c.clear.ensures.items

pub returns-else-are_settled : goal.returns-else-are_settled
returns-else-are_settled c =
    settles_anew c.args.self.now c.are_settled.new.self c.args.watching.now _ _ c.requires.ready
    (subst (AreSettled c.args.watching.now c.args.self.now c.are_settled.new.self) c.if-are_settled.false c.are_settled.ensures) c.clear-else-are_settled-2.ensures.items c.clear-else-are_settled.ensures.items
