use Rattle.std.proofs.Common.{None, subst}
use Rattle.resolvo_sat.specs.declared.watch_lists.WatchLists.{WatchLists}
use Rattle.resolvo_sat.specs.Propagation.{IsRun}
use Rattle.resolvo_sat.proofs.DoneLemmas.{done_dropped, within_last, last_has_done}
use Rattle.resolvo_sat.proofs.CompleteLemmas.{ready_noted, covered_noted, complete_noted}
use Rattle.resolvo_sat.proofs.state.SatState.propagate.Goals as goal

pub set_and_propagate-requires : goal.set_and_propagate-requires
set_and_propagate-requires c =
    let kept = done_dropped c.args.self.now c.args.watching.now c.last_done-done.new.self c.last_done-done.ensures.dropped c.requires.ready.done in
    record {
      ready = ready_noted c.args.self.now c.args.watching.now c.last_done-done.new.self c.last_done-done.ensures.dropped.rest kept c.requires.ready;
      covered = covered_noted c.args.self.now c.args.watching.now c.last_done-done.new.self c.last_done-done.ensures.dropped.rest c.requires.covered;
      within = within_last c.args.self.now c.last_done-done.new.self c.args.self.now.qhead c.last_done-done.result kept c.last_done-done.ensures.last;
      done = last_has_done c.args.self.now c.last_done-done.new.self c.last_done-done.result kept c.last_done-done.ensures.last;
    }

pub returns-in_ok-note_done-in-None-clause-propagation : goal.returns-in_ok-note_done-in-None-clause-propagation
returns-in_ok-note_done-in-None-clause-propagation c =
    let u : WatchLists = c.last_done-done.new.self in
    let w : WatchLists = c.set_and_propagate.new.watching in
    let run : IsRun c.args.self.now c.set_and_propagate.new.self u w None = subst (IsRun c.args.self.now c.set_and_propagate.new.self u w) c.in-None.is c.in_ok-clause.ensures.run in
    complete_noted c.args.self.now c.set_and_propagate.new.self c.args.watching.now u w c.note_done.new.self c.last_done-done.ensures.dropped.rest
    (covered_noted c.args.self.now c.args.watching.now u c.last_done-done.ensures.dropped.rest c.requires.covered) run.0 run.1 c.in_ok-note_done-in-None.ensures.noted
