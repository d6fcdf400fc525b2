use Rattle.std.proofs.lemmas.Result.{err_from_is_err_and}
use Rattle.resolve_check.proofs.Results.{if_ok}
use Rattle.resolve_run.proofs.Reports.{stopped_within, within_ok, within_err}
use Rattle.resolve_run.proofs.program.report.Goals as goal

pub returns-in_err-answer-clause-err : goal.returns-in_err-answer-clause-err
returns-in_err-answer-clause-err c =
    let p = err_from_is_err_and c.from_residual.result c.from_residual.ensures.1 in
    rw (p.1, p.2) (stopped_within c.args.budget c.in_err-answer.field-0.0 c.args.catalogue.now c.args.request.now c.in_err-answer.ensures.stop)

pub returns-clause-ok : goal.returns-clause-ok
returns-clause-ok c = within_ok _ c.written.result c.within.result c.within.ensures (if_ok c.written.result (λ w f asks wishes. f _ _ (c.in_ok-answer.ensures.report asks wishes)) c.written.ensures.ok)

pub returns-clause-err : goal.returns-clause-err
returns-clause-err c = within_err _ _ c.written.result c.within.result c.within.ensures (λ e lack asks wishes. lack _ _ (c.in_ok-answer.ensures.report asks wishes)) c.written.ensures.err
