use Rattle.std.proofs.Common.{ap, ◌∙◌, ◌++◌}
use Rattle.resolvo_report.specs.View.{place_of}
use Rattle.resolvo_checker.specs.StepKeys.{place_key}
use Rattle.resolvo_checker.proofs.rule_steps.need_key.Goals as goal

pub returns : goal.returns
returns c = c.in_ok-push_place.ensures ∙ ap (λ k. k ++ place_key (place_of c.args.place.now)) c.in_ok-key.ensures.items
