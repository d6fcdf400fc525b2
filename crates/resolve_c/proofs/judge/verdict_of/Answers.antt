use Rattle.std.specs.Prelude.{Some}
use Rattle.resolve_c.proofs.Calls.{check_taken, check_stopped}
use Rattle.resolve_c.proofs.judge.verdict_of.Goals as goal

pub returns-in-Ok-clause-ok : goal.returns-in-Ok-clause-ok
returns-in-Ok-clause-ok c = rw c.into_bytes.ensures
    (check_taken _ _ _ _ _ _ _ _ c.in-Ok.checked c.new.ensures c.new-2.ensures c.new-3.ensures c.new-text.ensures.empty c.in-Ok.ensures.written)

pub returns-in-Err-clause-err : goal.returns-in-Err-clause-err
returns-in-Err-clause-err c = check_stopped c.in-Err.fault c.growing.result _ _ _ _ _ _ (Some c.check.new.catalogue.left.now) (Some c.check.new.request.left.now) (Some c.check.new.report.left.now) _ c.new.ensures c.new-2.ensures c.new-3.ensures c.growing.ensures c.in-Err.ensures.stopped
