use Rattle.std.proofs.Common.{◌<◌, ◌^◌, arith}
use Rattle.resolvo_sat.specs.State.{count_of}
use Rattle.resolvo_sat.proofs.TieLemmas.{ready_with_room, covered_with_room}
use Rattle.resolvo_sat.proofs.state.SatState.reserve_ties.Goals as goal

pub reserve_clauses-requires : goal.reserve_clauses-requires
reserve_clauses-requires c =
    let small : count_of c.args.self.now < 2 ^ 31 = c.requires.ready.state.small in
    omega (arith, c.args.self.now.variables.ok.0)

pub returns-clause-ready : goal.returns-clause-ready
returns-clause-ready c = ready_with_room c.args.self.now c.args.watching.now c.reserve_clauses.new.self c.reserve_clauses.ensures.same c.requires.ready

pub returns-clause-covered : goal.returns-clause-covered
returns-clause-covered c = covered_with_room c.args.self.now c.args.watching.now c.reserve_clauses.new.self c.requires.covered

pub returns-clause-room : goal.returns-clause-room
returns-clause-room c =
    let room = c.in_ok-reserve_clauses.ensures.room in
    record { lists = omega (arith, room.lists, c.args.self.now.variables.ok.0); links = omega (arith, room.links) }
