use Rattle.std.proofs.Common.{◌∙◌}
use Rattle.resolvo_text.specs.View.{specs_of}
use Rattle.resolvo_report.specs.Value.{SharedBy}
use Rattle.resolvo_checker.proofs.clause_atoms.push_shared.Goals as goal

pub returns : goal.returns
returns c = λ vs. c.in_ok-push_key.ensures vs (SharedBy (specs_of c.args.alternatives.now)) (c.deref.ensures.value ∙ c.in_ok-key.ensures)
