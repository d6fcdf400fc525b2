use Rattle.std.proofs.Common.{◌≡◌, ◌∙◌, true, sym, ap, subst}
use Rattle.resolvo_terms.specs.Terms.{NameId}
use Rattle.resolvo_catalogue.specs.Ids.{SolvableId}
use Rattle.resolvo_catalogue.specs.Over.{IsOver, AreAsked}
use Rattle.resolvo_catalogue.specs.Provider.{Provider}
use Rattle.resolvo.specs.Solver.{Kept}
use Rattle.resolve_answer.proofs.StopLemmas.{if_stopped}
use Rattle.resolve_answer.proofs.Upheld.{if_ok}
use Rattle.resolve_answer.proofs.answer.answered_by.Goals as goal

pub returns-clause-report : goal.returns-clause-report
returns-clause-report c =
    let same = ap (λ (k : Kept Provider NameId SolvableId). k.provider) (c.with_release-solver.ensures ∙ c.new.ensures) in
    if_ok c.answered-report.result (λ r reports asks versions over asked. reports asks versions
    (subst (λ (p : Provider). IsOver c.args.catalogue.now p) (sym same) over)
    (subst (λ (p : Provider). AreAsked p.ids c.args.request.now c.args.asked) (sym same) asked))
    c.answered-report.ensures.report

pub returns-clause-stop : goal.returns-clause-stop
returns-clause-stop c =
    let same = ap (λ (k : Kept Provider NameId SolvableId). k.provider) (c.with_release-solver.ensures ∙ c.new.ensures) in
    if_stopped c.answered-report.result (subst (λ (p : Provider). p.has_budget ≡ true) same)
    (λ long asks versions over asked. long asks versions
    (subst (λ (p : Provider). IsOver c.args.catalogue.now p) (sym same) over)
    (subst (λ (p : Provider). AreAsked p.ids c.args.request.now c.args.asked) (sym same) asked))
    c.answered-report.ensures.stop
