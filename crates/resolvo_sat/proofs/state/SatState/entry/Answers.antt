use Rattle.std.proofs.Common.{◌<◌, ◌^◌, false, arith}
use Rattle.resolvo_store_core.specs.declared.decision.Entry.{Entry}
use Rattle.resolvo_sat.specs.State.{count_of, clauses_of}
use Rattle.resolvo_sat.proofs.Trails.{entry_read, entry_in_range}
use Rattle.resolvo_sat.proofs.state.SatState.entry.Goals as goal

pub returns-clause-next : goal.returns-clause-next
returns-clause-next c = entry_read c.args.self.now.tracker.trail c.stack.result.now c.args.place _ c.requires.in_range c.stack.ensures.trail

pub returns-clause-small : goal.returns-clause-small
returns-clause-small c =
    let small : count_of c.args.self.now < 2 ^ 31 = c.requires.state.small in
    let d : Entry = record { decision = record { variable = record { 0 = 0 }; value = false; derived_from = record { 0 = 0 } }; level = 0 } in
    omega (arith, entry_in_range (count_of c.args.self.now) (clauses_of c.args.self.now) c.args.self.now.tracker.trail c.stack.result.now c.args.place d c.requires.state.trail c.requires.in_range c.stack.ensures.trail)
