use Rattle.std.specs.Prelude.{Some}
use Rattle.resolve_c.proofs.Calls.{answer_taken, run_stopped_within}
use Rattle.resolve_c.proofs.solve.answer_of.Goals as goal

pub returns-in-Ok-clause-ok : goal.returns-in-Ok-clause-ok
returns-in-Ok-clause-ok c = rw c.into_bytes.ensures
    (answer_taken _ _ _ _ _ _ c.in-Ok.outcome c.new.ensures c.new-2.ensures c.new-text.ensures.empty c.in-Ok.ensures.written)

pub returns-in-Err-clause-err : goal.returns-in-Err-clause-err
returns-in-Err-clause-err c = run_stopped_within c.args.budget c.in-Err.stop c.growing_within.result _ _ _ _ (Some c.run_within.new.catalogue.left.now) (Some c.run_within.new.request.left.now) _ c.new.ensures c.new-2.ensures c.growing_within.ensures c.in-Err.ensures.stopped
