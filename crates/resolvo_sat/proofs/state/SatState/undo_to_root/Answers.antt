use Rattle.std.proofs.Common.{refl}
use Rattle.resolvo_sat.proofs.StepLemmas.{state_restarted}
use Rattle.resolvo_sat.proofs.state.SatState.undo_to_root.Goals as goal

pub returns : goal.returns
returns c =
    state_restarted c.args.self.now (record c.args.self.now { tracker = c.undo_to_first.new.tracker; qhead = 0; guard_level = 0; indexed = c.min-self.result }) c.requires c.undo_to_first.ensures.shortened c.undo_to_first.ensures.one refl refl
