use Rattle.std.proofs.Common.{◌≡◌, ◌-◌, ◌≤◌, length}
use Rattle.resolvo_decide.specs.States.{AreClosed}
use Rattle.resolvo_decide.proofs.clause_states.ClauseStates.open_from.Given as goal

-- no clause up to here is open
abbrev pub invariant-loop-self : goal.invariant-loop-self
invariant-loop-self l = record {
  behind : l.from ≤ l.position;
  passed : AreClosed l.self l.from l.position;
  same : l.self ≡ l.initial.self;
}

abbrev pub decreases-loop-self : goal.decreases-loop-self
decreases-loop-self l = length l.self - l.position
