use Rattle.std.proofs.Common.{ap, ◌∙◌, ◌++◌}
use Rattle.resolvo_report.specs.Value.{BitOf}
use Rattle.resolvo_checker.proofs.clause_atoms.push_bit.Goals as goal

pub returns : goal.returns
returns c = λ vs. c.in_ok-push_key.ensures vs (BitOf c.args.bit c.args.name.now) (c.deref.ensures.value ∙ (c.in_ok-push_name.ensures ∙ ap (λ k. k ++ c.args.name.now) c.in_ok-key.ensures.items))
