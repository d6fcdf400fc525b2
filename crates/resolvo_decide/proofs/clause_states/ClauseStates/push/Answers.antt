use Rattle.std.proofs.Common.{arith}
use Rattle.std.proofs.lemmas.Grind.{common_steps}
use Rattle.resolvo_decide.proofs.Positions.{shut_more}
use Rattle.resolvo_decide.proofs.clause_states.ClauseStates.push.Goals as goal

-- marks of blocks, marks of groups, bounds, and the first positions
pub invariant_of-self-2 : goal.invariant_of-self-2
invariant_of-self-2 c = (
  grind (arith, common_steps),
  grind (arith, common_steps),
  grind (arith, common_steps),
  shut_more c.self.inside.states.items c.push.new.self.items c.self.inside.opening c.in_ok-push.ensures.items c.self.invariant.3,
)
