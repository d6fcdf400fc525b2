use Rattle.std.proofs.Common.{◌-◌, length, sym, arith}
use Rattle.resolvo_store_core.proofs.Trails.{last_level_read}
use Rattle.resolvo_store_core.proofs.decision_tracker.top_level.Goals as goal

pub returns-in-Some : goal.returns-in-Some
returns-in-Some c = let h = c.in-Some.ensures.item in sym (last_level_read c.args.stack.now (length c.args.stack.now - 1) c.in-Some.entry.now (omega arith) (sym c.in-Some.ensures.value))
