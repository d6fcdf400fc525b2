use Rattle.resolve_check.specs.Devices.{in_catalogue, in_request}
use Rattle.std.proofs.Common.{refl}
use Rattle.resolve_check.proofs.CheckLemmas.{catalogue_good}
use Rattle.resolve_check.proofs.Results.{if_ok, if_err}
use Rattle.resolve_run.proofs.Reports.{of_texts, catalogue_answer, request_answer, answered_err, lacked_within, alone_ok, alone_err}
use Rattle.resolve_run.proofs.program.answer.Goals as goal

pub returns-in-Err-clause-ok : goal.returns-in-Err-clause-ok
returns-in-Err-clause-ok g c = alone_ok _ c.not_read.result c.unread.result c.unread.ensures
    (catalogue_answer _ _ _ _ c.in-Err.fault c.not_read.result c.in-Err.ensures.fault c.not_read.ensures)

pub returns-in-Err-clause-err : goal.returns-in-Err-clause-err
returns-in-Err-clause-err g c = alone_err _ _ c.not_read.result c.unread.result c.unread.ensures (λ e stops. stops)
    (answered_err _ _ c.in-Err.fault _ c.not_read.result c.not_read.ensures (in_catalogue c.in-Err.ensures.fault refl))

pub returns-in-Err-read-clause-ok : goal.returns-in-Err-read-clause-ok
returns-in-Err-read-clause-ok g c = alone_ok _ c.not_read-in-Err-read.result c.unread-in-Err-read.result c.unread-in-Err-read.ensures
    (request_answer _ _ _ _ _ c.in-Err-read.fault c.not_read-in-Err-read.result c.in-Ok.ensures.ok c.in-Err-read.ensures.fault c.not_read-in-Err-read.ensures)

pub returns-in-Err-read-clause-err : goal.returns-in-Err-read-clause-err
returns-in-Err-read-clause-err g c = alone_err _ _ c.not_read-in-Err-read.result c.unread-in-Err-read.result c.unread-in-Err-read.ensures (λ e stops. stops)
    (answered_err _ _ c.in-Err-read.fault _ c.not_read-in-Err-read.result c.not_read-in-Err-read.ensures (in_request _ c.in-Ok.ensures.ok c.in-Err-read.ensures.fault))

pub returns-clause-ok : goal.returns-clause-ok
returns-clause-ok g c = if_ok c.report-ended.result (λ a h. of_texts _ _ _ _ a.outcome _ c.in-Ok.ensures.ok c.in-Ok-read.ensures.ok (h c.in-Ok-read.ensures.lines c.in-Ok-read.ensures.wishes)) c.report-ended.ensures.ok

pub returns-clause-err : goal.returns-clause-err
returns-clause-err g c = if_err c.report-ended.result (λ e lack. lacked_within c.args.budget e _ _ (record { catalogue_lines = _; request_lines = _; catalogue_read = c.in-Ok.ensures.ok; request_read = c.in-Ok-read.ensures.ok }) (lack c.in-Ok-read.ensures.lines c.in-Ok-read.ensures.wishes)) c.report-ended.ensures.err

pub returns-in-Err-clause-catalogue_faulty : goal.returns-in-Err-clause-catalogue_faulty
returns-in-Err-clause-catalogue_faulty g c = λ text is n faulty. refl

pub returns-in-Err-read-clause-catalogue_faulty : goal.returns-in-Err-read-clause-catalogue_faulty
returns-in-Err-read-clause-catalogue_faulty g c = catalogue_good _ _ _ c.in-Ok.ensures.ok

pub returns-clause-catalogue_faulty : goal.returns-clause-catalogue_faulty
returns-clause-catalogue_faulty g c = catalogue_good _ _ _ c.in-Ok.ensures.ok
