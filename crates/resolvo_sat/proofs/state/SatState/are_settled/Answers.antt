use Rattle.std.proofs.Common.{refl, ◌∙◌}
use Rattle.std.proofs.lemmas.List.{take_all}
use Rattle.resolvo_sat.proofs.StartLemmas.{so_far_none, so_far_more, so_far_fails, so_far_ends}
use Rattle.resolvo_sat.proofs.state.SatState.are_settled.Goals as goal

pub loop-clause-init : goal.loop-clause-init
loop-clause-init c = so_far_none c.args.watching.now c.args.self.now c.deref-clause-items.result.now c.requires.state

pub returns-then-not-is_settled : goal.returns-then-not-is_settled
returns-then-not-is_settled c = so_far_fails _ c.args.watching.now c.args.self.now c.loop-clause.self c.is_settled.new.self _ c.is_settled.result c.loop-clause.invariant c.if-not-is_settled.true c.is_settled.ensures

pub loop-clause-preserved : goal.loop-clause-preserved
loop-clause-preserved c =
    so_far_more c.args.watching.now c.args.self.now c.loop-clause.self c.is_settled.new.self c.deref-clause-items.result.now c.loop-clause.clause-index _ _ c.is_settled.result c.requires.qhead c.loop-clause-test.true refl c.loop-clause.invariant c.if-not-is_settled.false
    c.is_settled.ensures

pub returns : goal.returns
returns c =
    so_far_ends c.args.watching.now c.args.self.now c.loop-clause.self _ (take_all c.loop-clause.clause-index c.deref-clause-items.result.now c.loop-clause-test.false ∙ c.deref-clause-items.ensures.value) c.loop-clause.invariant
