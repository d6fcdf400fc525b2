use Rattle.std.proofs.Common.{◌≡◌, ℕ, ◌⊎◌, length}
use Rattle.resolvo_decide.specs.declared.clause_states.ClauseState.TheVariants.{Open}
use Rattle.resolvo_decide.specs.Links.{IsLinked}
use Rattle.resolvo_decide.specs.Needs.{IsClauseOf}
use Rattle.resolvo_decide.specs.States.{state_at}
use Rattle.resolvo_decide.proofs.undecided_clauses.UndecidedClauses.open_clauses_of.Given as goal

-- the parent's clauses are open, or linked from the next link; the others are unchanged or open
abbrev pub invariant-loop-link : goal.invariant-loop-link
invariant-loop-link l = record {
  opened : (i : ℕ) → IsClauseOf l.fn.self.by_parent l.fn.parent.0 i → (state_at l.self.states i ≡ Open) ⊎ IsLinked l.fn.self.by_parent.links.items l.next i;
  others : (i : ℕ) → (state_at l.self.states i ≡ state_at l.fn.self.states i) ⊎ (state_at l.self.states i ≡ Open);
  len : length l.self.states ≡ length l.fn.self.states;
  rest : l.self ≡ record l.fn.self { states = l.self.states };
}

abbrev pub decreases-loop-link : goal.decreases-loop-link
decreases-loop-link l = l.next
