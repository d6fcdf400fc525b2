use Rattle.std.proofs.Common.{◌≡◌, drop}
use Rattle.resolvo_store_core.specs.Trail.{clause_for}
use Rattle.resolvo_store_core.proofs.decision_tracker.DecisionTracker.find_clause_for_assignment.Given as goal

-- no entry before this one is of the variable
abbrev pub invariant-loop-entry : goal.invariant-loop-entry
invariant-loop-entry l = clause_for l.self.trail l.variable.0 ≡ clause_for (drop l.entry-index l.entry-items) l.variable.0
