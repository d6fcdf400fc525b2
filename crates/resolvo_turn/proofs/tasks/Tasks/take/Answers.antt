use Rattle.resolvo_turn.proofs.TaskLemmas.{work_taken}
use Rattle.resolvo_turn.proofs.tasks.Tasks.take.Goals as goal

pub returns-clause-work : goal.returns-clause-work
returns-clause-work g c =
    work_taken c.pop_front.result c.args.self.now.queue.items c.pop_front.new.self.items c.pop_front.ensures.items
