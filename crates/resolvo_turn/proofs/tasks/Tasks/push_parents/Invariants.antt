use Rattle.std.proofs.Common.{◌≤◌, ◌-◌}
use Rattle.resolvo_turn.specs.Tasks.{bound}
use Rattle.resolvo_turn.proofs.tasks.Tasks.push_parents.Given as goal

abbrev pub invariant-loop-parent : goal.invariant-loop-parent
invariant-loop-parent g l = bound l.self ≤ bound l.initial.self

abbrev pub decreases-loop-parent : goal.decreases-loop-parent
decreases-loop-parent g l = 18446744073709551616 - l.self.queued
