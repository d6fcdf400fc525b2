use Rattle.std.proofs.Common.{ap, sym, ◌∙◌, ◌+◌, take, arith}
use Rattle.resolvo_report.specs.View.{steps_of}
use Rattle.resolvo_checker.specs.CheckStep.{count_causes}
use Rattle.resolvo_checker.proofs.WholeProofs.{count_more, room_for}
use Rattle.resolvo_checker.proofs.proof.count_causes.Goals as goal

pub loop-step-preserved : goal.loop-step-preserved
loop-step-preserved c =
    c.in_ok-count.ensures.1 ∙ (ap (λ n. n + c.causes_in.result) c.loop-step.invariant ∙ (ap (λ n. count_causes (steps_of (take c.loop-step.step-index c.args.steps.now)) + n) c.causes_in.ensures
    ∙ sym (count_more c.args.steps.now c.loop-step.step-index c.step-item.result c.loop-step-test.true c.step-item.is)))

pub returns-in_err-count-clause-none : goal.returns-in_err-count-clause-none
returns-in_err-count-clause-none c =
    let most = room_for c.args.steps.now c.loop-step.step-index c.step-item.result c.loop-step-test.true c.step-item.is in
    grind (arith, most, c.loop-step.invariant, c.causes_in.ensures, c.checked_add.ensures, c.branch-count.ensures, c.in_err-count.was, c.in_err-count.ensures, c.from_residual.ensures)
