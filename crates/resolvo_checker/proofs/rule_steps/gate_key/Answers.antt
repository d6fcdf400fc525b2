use Rattle.std.proofs.Common.{ap, ◌∙◌, ◌++◌}
use Rattle.resolvo_text.specs.View.{version_of}
use Rattle.resolvo_checker.specs.StepKeys.{version_key}
use Rattle.resolvo_checker.proofs.rule_steps.gate_key.Goals as goal

pub returns : goal.returns
returns c = c.in_ok-push_version.ensures ∙ ap (λ k. k ++ version_key (version_of c.args.version.now)) c.in_ok-key.ensures.items
