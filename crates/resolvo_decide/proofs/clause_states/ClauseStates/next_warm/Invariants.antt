use Rattle.std.proofs.Common.{◌≡◌, ◌-◌, ◌≤◌, length}
use Rattle.resolvo_decide.specs.States.{AreClosedOrCold}
use Rattle.resolvo_decide.proofs.clause_states.ClauseStates.next_warm.Given as goal

-- no clause up to here is open and may be warm
abbrev pub invariant-loop-self : goal.invariant-loop-self
invariant-loop-self l = record {
  behind : l.from ≤ l.position;
  passed : AreClosedOrCold l.self l.warm l.from l.position;
  same : l.self ≡ l.initial.self;
}

abbrev pub decreases-loop-self : goal.decreases-loop-self
decreases-loop-self l = length l.self - l.position
