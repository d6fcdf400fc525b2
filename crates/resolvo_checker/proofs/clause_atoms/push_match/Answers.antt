use Rattle.std.proofs.Common.{ap, ◌∙◌, ◌++◌}
use Rattle.resolvo_text.specs.View.{spec_of}
use Rattle.resolvo_report.specs.Value.{MatchesOf}
use Rattle.resolvo_checker.specs.Keys.{spec_key}
use Rattle.resolvo_checker.proofs.clause_atoms.push_match.Goals as goal

pub returns : goal.returns
returns c = λ vs. c.in_ok-push_key.ensures vs (MatchesOf (spec_of c.args.spec.now)) (c.deref.ensures.value ∙ (c.in_ok-push_spec.ensures ∙ ap (λ k. k ++ spec_key (spec_of c.args.spec.now)) c.in_ok-key.ensures.items))
