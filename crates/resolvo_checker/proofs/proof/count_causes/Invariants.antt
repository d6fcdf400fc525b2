use Rattle.std.proofs.Common.{◌≡◌, take}
use Rattle.resolvo_report.specs.View.{steps_of}
use Rattle.resolvo_checker.specs.CheckStep.{count_causes}
use Rattle.resolvo_checker.proofs.proof.count_causes.Given as goal

abbrev pub invariant-loop-step : goal.invariant-loop-step
invariant-loop-step l = l.count ≡ count_causes (steps_of (take l.step-index l.steps))
