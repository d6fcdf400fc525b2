use Rattle.std.proofs.Common.{refl, Some}
use Rattle.resolve_c.specs.CallResult.{answered, solved}
use Rattle.resolve_c.proofs.Calls.{leaves_as, unanswered_within}
use Rattle.resolve_c.proofs.solve.resolve_solve_within.Goals as goal

pub returns-in-Ok : goal.returns-in-Ok
returns-in-Ok c = solved (answered c.in-Ok.written.outcome c.in-Ok.written.text.items c.in-Ok.ensures.ok
    (leaves_as _ _ _ _ _ _ _ c.ending_of.ensures c.deref.ensures.value c.write_text.ensures))

pub returns-in-Err : goal.returns-in-Err
returns-in-Err c = unanswered_within (Some c.args.budget) c.in-Err.stop _ _ _ _ _ c.in-Err.ensures.err
    (leaves_as _ _ _ _ _ _ _ c.stop_ending_of.ensures refl c.write_text-in-Err.ensures)
