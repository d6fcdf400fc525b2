use Rattle.std.proofs.Common.{refl}
use Rattle.resolve_c.specs.CallResult.{checked}
use Rattle.resolve_c.proofs.Calls.{leaves_as, unchecked}
use Rattle.resolve_c.proofs.judge.resolve_judge.Goals as goal

pub returns-in-Ok : goal.returns-in-Ok
returns-in-Ok c = checked c.in-Ok.answer.checked c.in-Ok.answer.text.items c.in-Ok.ensures.ok
    (leaves_as _ _ _ _ _ _ _ c.check_ending_of.ensures c.deref.ensures.value c.write_text.ensures)

pub returns-in-Err : goal.returns-in-Err
returns-in-Err c = unchecked c.in-Err.fault _ _ _ _ _ _ c.in-Err.ensures.err
    (leaves_as _ _ _ _ _ _ _ c.fault_ending_of.ensures refl c.write_text-in-Err.ensures)
