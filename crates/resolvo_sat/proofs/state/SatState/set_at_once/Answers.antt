use Rattle.std.proofs.Common.{refl, ◌∙◌}
use Rattle.resolvo_sat.proofs.ExtendLemmas.{extends_nothing, extends_more}
use Rattle.resolvo_sat.proofs.StartLemmas.{proceeds_kept}
use Rattle.resolvo_sat.proofs.state.SatState.set_at_once.Goals as goal

pub loop-start-init : goal.loop-start-init
loop-start-init c = (extends_nothing c.args.self.now c.requires.state, refl)

pub set_noted-requires : goal.set_noted-requires
set_noted-requires c = c.loop-start.invariant.0.state

pub loop-start-preserved : goal.loop-start-preserved
loop-start-preserved c = (
  extends_more c.args.self.now c.loop-start.self c.set_noted.new.self c.loop-start.invariant.0 c.in_ok-set_noted.ensures.extends,
  c.in_ok-set_noted.ensures.qhead ∙ c.loop-start.invariant.1,
)

pub returns-clause-proceeds : goal.returns-clause-proceeds
returns-clause-proceeds c =
    proceeds_kept c.args.self.now c.loop-start.self c.args.watching.now c.drop_new.new.self c.requires c.loop-start.invariant.0 c.loop-start.invariant.1 c.drop_new.ensures
