use Rattle.std.proofs.Common.{◌≡◌, ◌<◌, ◌+◌, ◌^◌, get_or, length, refl, sym, subst, Vec, Global, arith}
use Rattle.resolvo_pool_core.specs.declared.id.VariableId.{VariableId}
use Rattle.resolvo_store_core.specs.Watches.{HasRoomFor}
use Rattle.resolvo_store_core.specs.declared.watched_literals.WatchedLiterals.{WatchedLiterals}
use Rattle.resolvo_sat.specs.declared.state.VariableKind.{VariableKind}
use Rattle.resolvo_sat.specs.State.{count_of}
use Rattle.resolvo_store_core.proofs.Rooms.{room_kept}
use Rattle.resolvo_sat.proofs.PairLemmas.{tie_within, ties_begun, ties_more, ties_added}
use Rattle.resolvo_sat.proofs.TieLemmas.{tie_differs, tie_open, one_added}
use Rattle.resolvo_sat.proofs.state.SatState.add_plain_ties.Goals as goal

pub new-first-requires : goal.new-first-requires
new-first-requires c =
    let small : count_of c.args.self.now < 2 ^ 31 = c.requires.ready.state.small in
    let low : c.args.variable.0 < count_of c.args.self.now = c.requires.variable in
    omega arith

pub loop-digit-init : goal.loop-digit-init
loop-digit-init c = record {
  far = ties_begun c.args.variable c.args.place c.args.digits.now c.args.self.now c.reserve_ties.new.watching c.in_ok-reserve_ties.ensures.ready c.in_ok-reserve_ties.ensures.covered;
  room = c.in_ok-reserve_ties.ensures.room;
  number = omega arith;
}

pub new-second-requires : goal.new-second-requires
new-second-requires c =
    let small : count_of c.args.self.now < 2 ^ 31 = c.requires.ready.state.small in
    let low : (get_or c.args.digits.now c.loop-digit.digit-index (record { 0 = 0 })).0 < count_of c.args.self.now = c.requires.digits c.loop-digit.digit-index c.loop-digit-test.true in
    omega arith

pub add_plain_tie-requires : goal.add_plain_tie-requires
add_plain_tie-requires c =
    let far = c.loop-digit.invariant.far in
    let i = c.loop-digit.digit-index in
    let x = c.args.variable in
    let d : VariableId = get_or c.args.digits.now i (record { 0 = 0 }) in
    let p : WatchedLiterals = record { first = c.new-first.result; second = c.new-second.result } in
    let plain = c.requires.plain.each i c.loop-digit-test.true in
    let number : length c.loop-digit.self.clauses ≡ length c.args.self.now.clauses + i = c.loop-digit.invariant.number in
    let below : i < length c.args.digits.now = c.loop-digit-test.true in
    record {
      ready = far.adds.ready;
      covered = far.adds.covered;
      differ = tie_differs _ x d _ p c.new-first.ensures c.new-second.ensures plain;
      in_range = tie_within x c.args.digits.now i p _ c.args.self.now c.loop-digit.self far.adds.variables c.requires.variable c.requires.digits c.loop-digit-test.true c.new-first.ensures c.new-second.ensures;
      both = tie_open c.args.self.now c.loop-digit.self x d _ p far.adds.tracker c.new-first.ensures c.new-second.ensures c.requires.plain.first plain;
      room = subst (λ (vs : Vec VariableKind Global). HasRoomFor (length vs.items) (length c.loop-digit.self.clauses + 1) c.loop-digit.watching.watches) (sym far.adds.variables)
          (room_kept c.loop-digit.watching.watches c.loop-digit.watching.watches (count_of c.args.self.now) (length c.loop-digit.self.clauses + 1) (length c.args.self.now.clauses + length c.args.digits.now) (omega arith) c.loop-digit.invariant.room (record { lists = refl; links = refl }));
    }

pub loop-digit-preserved : goal.loop-digit-preserved
loop-digit-preserved c =
    let i = c.loop-digit.digit-index in
    let all = length c.args.self.now.clauses + length c.args.digits.now in
    let number : length c.loop-digit.self.clauses ≡ length c.args.self.now.clauses + i = c.loop-digit.invariant.number in
    let one : length c.add_plain_tie.new.self.clauses ≡ length c.loop-digit.self.clauses + 1 = one_added _ c.in_ok-add_plain_tie.field-0 c.loop-digit.self c.add_plain_tie.new.self c.loop-digit.watching c.add_plain_tie.new.watching c.in_ok-add_plain_tie.ensures.added in
    record {
      far = ties_more c.args.variable c.args.place c.args.digits.now i c.loop-digit.rest (record { 0 = 0 }) (record { first = c.new-first.result; second = c.new-second.result }) c.in_ok-add_plain_tie.field-0 c.args.self.now c.loop-digit.self c.add_plain_tie.new.self
          c.loop-digit.watching c.add_plain_tie.new.watching c.loop-digit-test.true c.new-first.ensures c.new-second.ensures c.loop-digit.invariant.far c.in_ok-add_plain_tie.ensures.added;
      room = room_kept c.loop-digit.watching.watches c.add_plain_tie.new.watching.watches (count_of c.args.self.now) all all (omega arith) c.loop-digit.invariant.room c.in_ok-add_plain_tie.ensures.room;
      number = omega arith;
    }

pub returns-clause-added : goal.returns-clause-added
returns-clause-added c =
    ties_added c.args.variable c.args.place c.args.digits.now c.loop-digit.digit-index c.loop-digit.rest c.args.self.now c.loop-digit.self c.loop-digit.watching c.loop-digit-test.false c.loop-digit.invariant.far
