use Rattle.std.proofs.Common.{◌≡◌, arith}
use Rattle.resolvo_sat.specs.declared.state.SatState.{SatState}
use Rattle.resolvo_sat.specs.Entries.{before, top_level}
use Rattle.resolvo_sat.specs.State.{count_of, clauses_of}
use Rattle.resolvo_sat.proofs.Trails.{trail_before}
use Rattle.resolvo_sat.proofs.MarkLemmas.{below_top}
use Rattle.resolvo_sat.proofs.MetLemmas.{asserting}
use Rattle.resolvo_sat.proofs.state.SatState.is_asserting.Goals as goal

pub returns-then-entry-level_before : goal.returns-then-entry-level_before
returns-then-entry-level_before c =
    let s : SatState = c.args.self.now in
    let before_it : c.level_before.result ≡ top_level (before s.tracker.trail c.args.place) = c.level_before.ensures in
    (omega arith, below_top (count_of s) (clauses_of s) c.args.seen.now (before s.tracker.trail c.args.place) c.args.entry.level (trail_before (count_of s) (clauses_of s) s.tracker.trail c.args.place c.requires.state.trail) (omega arith))

pub returns : goal.returns
returns c =
    let s : SatState = c.args.self.now in
    let before_it : c.level_before.result ≡ top_level (before s.tracker.trail c.args.place) = c.level_before.ensures in
    asserting s c.args.seen.now c.args.entry (before s.tracker.trail c.args.place) c.are_below.result (omega arith) (omega arith) c.are_below.ensures
