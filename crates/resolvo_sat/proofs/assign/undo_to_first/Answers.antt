use Rattle.std.proofs.Common.{◌<◌, length, subst}
use Rattle.resolvo_sat.proofs.StepLemmas.{shortens_more}
use Rattle.resolvo_sat.proofs.assign.undo_to_first.Goals as goal

pub loop-tracker-preserved : goal.loop-tracker-preserved
loop-tracker-preserved c =
    shortens_more c.args.tracker.now c.loop-tracker.tracker c.undo_last.new.self c.undo_last.result.0 c.loop-tracker.invariant c.undo_last.ensures.popped
    (subst (λ xs. 1 < length xs) c.stack.ensures.trail c.loop-tracker-test.true)
