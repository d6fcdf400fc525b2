use Rattle.std.proofs.Common.{◌≡◌, ℕ, ◌<◌, ◌≤◌, length}
use Rattle.resolvo_decide.specs.States.{state_at, reopened}
use Rattle.resolvo_decide.proofs.clause_states.ClauseStates.reopen_block.Given as goal

-- the states so far are changed, the others aren't
abbrev pub invariant-loop-position : goal.invariant-loop-position
invariant-loop-position l = record {
  changed : (i : ℕ) → l.start ≤ i → i < l.position → state_at l.self i ≡ reopened l.common (state_at l.initial.self i);
  before : (i : ℕ) → i < l.start → state_at l.self i ≡ state_at l.initial.self i;
  after : (i : ℕ) → l.position ≤ i → state_at l.self i ≡ state_at l.initial.self i;
  len : length l.self ≡ length l.initial.self;
}
