use Rattle.std.proofs.Common.{◌∙◌, sym}
use Rattle.resolve_answer.proofs.StopLemmas.{if_stopped}
use Rattle.resolve_answer.proofs.Upheld.{if_ok}
use Rattle.resolve_answer.proofs.answer.report_for.Goals as goal

pub returns-clause-report : goal.returns-clause-report
returns-clause-report c = if_ok c.answered_by.result (λ r reports asks versions. reports asks versions (c.in_ok-asked.ensures.over c.args.catalogue.now c.in_ok-provider.ensures.over) c.in_ok-asked.ensures.asked)
    c.answered_by.ensures.report

pub returns-clause-stop : goal.returns-clause-stop
returns-clause-stop c = if_stopped c.answered_by.result (λ has. c.in_ok-provider.ensures.budget (sym c.in_ok-asked.ensures.interns.budget ∙ has))
    (λ long asks versions. long asks versions (c.in_ok-asked.ensures.over c.args.catalogue.now c.in_ok-provider.ensures.over) c.in_ok-asked.ensures.asked) c.answered_by.ensures.stop
