use Rattle.std.proofs.Common.{◌≡◌, drop}
use Rattle.resolvo_store_core.specs.Values.{value_at}
use Rattle.resolvo_store_core.specs.Pick.{first_broken}
use Rattle.resolvo_decide.specs.Queue.{needs_of}
use Rattle.resolvo_decide.proofs.decide_queue.DecideQueue.falsified.Given as goal

-- none of the clauses before this one is wholly false
abbrev pub invariant-loop-need : goal.invariant-loop-need
invariant-loop-need g l = first_broken l.lists (value_at l.values) (needs_of l.self) ≡ first_broken l.lists (value_at l.values) (drop l.need-index l.need-items)
