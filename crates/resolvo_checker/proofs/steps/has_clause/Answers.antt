use Rattle.std.proofs.Common.{◌≡◌, sym, subst, IfOk, is_some}
use Rattle.resolvo_report.specs.View.{step_of}
use Rattle.resolvo_report.specs.declared.step.Step.{Step}
use Rattle.resolvo_checker.specs.StepClauses.{clause_of}
use Rattle.resolvo_checker.proofs.steps.has_clause.Goals as goal

pub returns-in-Need : goal.returns-in-Need
returns-in-Need c = λ _.
    subst (λ (s : Step). IfOk c.has_need.result (λ fine. fine ≡ is_some (clause_of c.args.catalogue.now c.args.request.now.lines (step_of s)))) (sym c.in-Need.is) c.has_need.ensures
