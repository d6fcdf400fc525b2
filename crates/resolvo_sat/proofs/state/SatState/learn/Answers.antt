use Rattle.resolvo_sat.specs.Clauses.{sat_clause}
use Rattle.resolvo_sat.proofs.Readiness.{ready_undone}
use Rattle.resolvo_sat.proofs.ChooseLemmas.{undo_covered}
use Rattle.resolvo_sat.proofs.Clauses.{same_parts}
use Rattle.resolvo_sat.proofs.JumpLemmas.{added_forces, learnt_above, learns}
use Rattle.resolvo_sat.proofs.state.SatState.learn.Goals as goal

pub add_clause-requires-clause-ready : goal.add_clause-requires-clause-ready
add_clause-requires-clause-ready c = ready_undone c.args.self.now c.undo_until.new.self c.args.watching.now c.args.learnt.level c.undo_until.ensures c.requires.ready

pub add_clause-requires-clause-covered : goal.add_clause-requires-clause-covered
add_clause-requires-clause-covered c = undo_covered c.args.self.now c.undo_until.new.self c.args.watching.now c.args.learnt.level c.undo_until.ensures c.requires.covered

pub assign-requires-clause-forces : goal.assign-requires-clause-forces
assign-requires-clause-forces c =
    added_forces c.args.self.now c.undo_until.new.self c.add_clause.new.self c.args.watching.now c.add_clause.new.watching c.args.learnt (sat_clause c.as_slice.result.now c.as_slice-2.result.now) c.in_ok-clause.clause c.requires.ready.state c.requires.learnt c.undo_until.ensures
    (same_parts _ _ _ _ c.as_slice.ensures.value c.as_slice-2.ensures.value) c.in_ok-clause.ensures.added

pub returns-clause-learns : goal.returns-clause-learns
returns-clause-learns c =
    learns c.args.self.now c.undo_until.new.self c.add_clause.new.self c.assign.new.self c.args.watching.now c.add_clause.new.watching c.args.learnt (sat_clause c.as_slice.result.now c.as_slice-2.result.now) c.in_ok-clause.clause (learnt_above c.args.self.now c.args.learnt c.requires.ready.state c.requires.learnt) c.undo_until.ensures
    (same_parts _ _ _ _ c.as_slice.ensures.value c.as_slice-2.ensures.value) c.in_ok-clause.ensures.added c.in_ok-assign.ensures.set
