use Rattle.std.proofs.Common.{◌≡◌, take, length}
use Rattle.resolvo_state.specs.Registered.{AddsTies}
use Rattle.resolvo_state.proofs.NewTies.{earlier_ties}
use Rattle.resolvo_state.proofs.registry.tie_earlier.Given as goal

-- the variables so far were tied to the digit
abbrev pub invariant-loop-variable : goal.invariant-loop-variable
invariant-loop-variable g l = record {
  encoded : AddsTies l.name (take l.variable-index (earlier_ties l.variables l.digit)) 0 (length l.variables) l.initial.coding l.coding;
  place : l.place ≡ l.variable-index;
}
