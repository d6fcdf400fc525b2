use Rattle.std.proofs.Common.{◌≡◌, ◌≤◌, ◌<◌, ◌+◌, arith, rules}
use Rattle.resolvo_turn.specs.Tasks.{bound, cost, work_left}
use Rattle.resolvo_turn.proofs.tasks.Tasks.push_parents.Goals as goal

pub loop-parent-preserved : goal.loop-parent-preserved
unfolding cost
loop-parent-preserved g c =
    let old = c.loop-parent.self in
    let new = c.push.new.self in
    let before : bound old ≤ bound c.args.self.now = c.loop-parent.invariant in
    let one : work_left new ≤ work_left old + 1 = c.in_ok-push.ensures.work in
    let queued : new.queued ≡ old.queued = c.in_ok-push.ensures.queued in
    let small : old.queued < 18446744073709551616 = search rules in
    omega arith
