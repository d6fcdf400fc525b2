use Rattle.std.proofs.Common.{refl, inr}
use Rattle.resolve_check.specs.Devices.{in_request}
use Rattle.resolve_check.proofs.CheckLemmas.{catalogue_good, catalogue_answer, request_good, request_answer, answered_err, verdict_checks}
use Rattle.resolve_check.proofs.check.answer.Goals as goal

pub returns-in-Err-clause-ok : goal.returns-in-Err-clause-ok
returns-in-Err-clause-ok g c = catalogue_answer _ _ _ _ _ c.in-Err.fault c.fault_answer.result c.in-Err.ensures.fault c.fault_answer.ensures

pub returns-in-Err-read-clause-ok : goal.returns-in-Err-read-clause-ok
returns-in-Err-read-clause-ok g c = request_answer _ _ _ _ _ _ c.in-Err-read.fault c.fault_answer-in-Err-read.result c.in-Ok.ensures.ok c.in-Err-read.ensures.fault c.fault_answer-in-Err-read.ensures

pub returns-in-Err-read-clause-err : goal.returns-in-Err-read-clause-err
returns-in-Err-read-clause-err g c = answered_err _ _ _ c.in-Err-read.fault _ c.fault_answer-in-Err-read.result c.fault_answer-in-Err-read.ensures (in_request _ c.in-Ok.ensures.ok c.in-Err-read.ensures.fault) refl

pub returns-in-Ok-judge-clause-ok : goal.returns-in-Ok-judge-clause-ok
returns-in-Ok-judge-clause-ok g c = verdict_checks _ _ _ _ _ c.in-Ok-judge.verdict c.verdict_answer.result c.in-Ok.ensures.ok c.in-Ok-read.ensures.ok c.in-Ok-judge.ensures.verdict c.in-Ok-judge.ensures.claim c.verdict_answer.ensures.ok

pub returns-in-Err-Reader-clause-err : goal.returns-in-Err-Reader-clause-err
returns-in-Err-Reader-clause-err g c = inr (record { catalogue_lines = _; request_lines = _; catalogue_read = c.in-Ok.ensures.ok; request_read = c.in-Ok-read.ensures.ok; stops = rw c.in-Err-Reader.field-0-is at c.in-Err-Reader.ensures.fault })

pub returns-in-Err-TooLong-clause-err : goal.returns-in-Err-TooLong-clause-err
returns-in-Err-TooLong-clause-err g c = inr (record { catalogue_lines = _; request_lines = _; catalogue_read = c.in-Ok.ensures.ok; request_read = c.in-Ok-read.ensures.ok; stops = rw c.in-Err-TooLong.field-0-is at c.in-Err-TooLong.ensures.fault })

pub returns-in-Err-clause-catalogue_faulty : goal.returns-in-Err-clause-catalogue_faulty
returns-in-Err-clause-catalogue_faulty g c = λ text is n faulty. (refl, refl)

pub returns-in-Err-clause-request_faulty : goal.returns-in-Err-clause-request_faulty
returns-in-Err-clause-request_faulty g c = λ text is other asks lines n grammatical faulty. refl

pub returns-in-Err-read-clause-catalogue_faulty : goal.returns-in-Err-read-clause-catalogue_faulty
returns-in-Err-read-clause-catalogue_faulty g c = catalogue_good _ _ _ c.in-Ok.ensures.ok

pub returns-in-Err-read-clause-request_faulty : goal.returns-in-Err-read-clause-request_faulty
returns-in-Err-read-clause-request_faulty g c = λ text is other asks lines n grammatical faulty. refl

pub returns-in-Ok-judge-clause-catalogue_faulty : goal.returns-in-Ok-judge-clause-catalogue_faulty
returns-in-Ok-judge-clause-catalogue_faulty g c = catalogue_good _ _ _ c.in-Ok.ensures.ok

pub returns-in-Ok-judge-clause-request_faulty : goal.returns-in-Ok-judge-clause-request_faulty
returns-in-Ok-judge-clause-request_faulty g c = request_good _ _ _ _ _ c.in-Ok.ensures.ok c.in-Ok-read.ensures.ok

pub returns-in-Err-Reader-clause-catalogue_faulty : goal.returns-in-Err-Reader-clause-catalogue_faulty
returns-in-Err-Reader-clause-catalogue_faulty g c = catalogue_good _ _ _ c.in-Ok.ensures.ok

pub returns-in-Err-Reader-clause-request_faulty : goal.returns-in-Err-Reader-clause-request_faulty
returns-in-Err-Reader-clause-request_faulty g c = request_good _ _ _ _ _ c.in-Ok.ensures.ok c.in-Ok-read.ensures.ok

pub returns-in-Err-TooLong-clause-catalogue_faulty : goal.returns-in-Err-TooLong-clause-catalogue_faulty
returns-in-Err-TooLong-clause-catalogue_faulty g c = catalogue_good _ _ _ c.in-Ok.ensures.ok

pub returns-in-Err-TooLong-clause-request_faulty : goal.returns-in-Err-TooLong-clause-request_faulty
returns-in-Err-TooLong-clause-request_faulty g c = request_good _ _ _ _ _ c.in-Ok.ensures.ok c.in-Ok-read.ensures.ok

pub returns-clause-catalogue_faulty : goal.returns-clause-catalogue_faulty
returns-clause-catalogue_faulty g c = catalogue_good _ _ _ c.in-Ok.ensures.ok

pub returns-clause-request_faulty : goal.returns-clause-request_faulty
returns-clause-request_faulty g c = request_good _ _ _ _ _ c.in-Ok.ensures.ok c.in-Ok-read.ensures.ok
