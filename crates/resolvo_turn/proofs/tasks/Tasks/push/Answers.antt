use Rattle.std.proofs.Common.{◌≤◌, ◌+◌, sym, subst}
use Rattle.resolvo_turn.specs.Tasks.{cost, work, work_left}
use Rattle.resolvo_turn.proofs.TaskLemmas.{work_push}
use Rattle.resolvo_turn.proofs.tasks.Tasks.push.Goals as goal

pub returns-clause-work : goal.returns-clause-work
returns-clause-work g c =
    let old = c.args.self.now in
    subst (λ ts. work ts ≤ work_left old + cost c.args.task) (sym c.in_ok-push_back.ensures.items) (work_push old.queue.items c.args.task)
