use Rattle.std.proofs.Common.{◌<◌, ◌^◌, get_or, arith}
use Rattle.resolvo_sat.specs.State.{count_of}
use Rattle.resolvo_sat.proofs.PairLemmas.{free_after, tie_within, ties_begun, ties_more, ties_added}
use Rattle.resolvo_sat.proofs.state.SatState.add_other_ties.Goals as goal

pub new-first-requires : goal.new-first-requires
new-first-requires c =
    let small : count_of c.args.self.now < 2 ^ 31 = c.requires.ready.state.small in
    let low : c.args.variable.0 < count_of c.args.self.now = c.requires.variable in
    omega arith

pub loop-digit-init : goal.loop-digit-init
loop-digit-init c = ties_begun c.args.variable c.args.place c.args.digits.now c.args.self.now c.args.watching.now c.requires.ready c.requires.covered

pub new-second-requires : goal.new-second-requires
new-second-requires c =
    let small : count_of c.args.self.now < 2 ^ 31 = c.requires.ready.state.small in
    let low : (get_or c.args.digits.now c.loop-digit.digit-index (record { 0 = 0 })).0 < count_of c.args.self.now = c.requires.digits c.loop-digit.digit-index c.loop-digit-test.true in
    omega arith

pub add_tie-requires : goal.add_tie-requires
add_tie-requires c =
    let far = c.loop-digit.invariant in
    record {
      ready = far.adds.ready;
      covered = far.adds.covered;
      in_range = tie_within c.args.variable c.args.digits.now c.loop-digit.digit-index (record { first = c.new-first.result; second = c.new-second.result }) _ c.args.self.now c.loop-digit.self far.adds.variables c.requires.variable
          c.requires.digits c.loop-digit-test.true c.new-first.ensures c.new-second.ensures;
      free = free_after c.is_free-is_free.result c.new-first.result c.args.self.now c.loop-digit.self far.adds.tracker c.is_free-is_free.ensures;
    }

pub loop-digit-preserved : goal.loop-digit-preserved
loop-digit-preserved c =
    ties_more c.args.variable c.args.place c.args.digits.now c.loop-digit.digit-index c.loop-digit.rest (record { 0 = 0 }) (record { first = c.new-first.result; second = c.new-second.result }) c.in_ok-add_tie.field-0 c.args.self.now
    c.loop-digit.self c.add_tie.new.self c.loop-digit.watching c.add_tie.new.watching c.loop-digit-test.true c.new-first.ensures c.new-second.ensures c.loop-digit.invariant c.in_ok-add_tie.ensures.added

pub returns-clause-added : goal.returns-clause-added
returns-clause-added c =
    ties_added c.args.variable c.args.place c.args.digits.now c.loop-digit.digit-index c.loop-digit.rest c.args.self.now c.loop-digit.self c.loop-digit.watching c.loop-digit-test.false c.loop-digit.invariant
