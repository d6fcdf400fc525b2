use Rattle.std.proofs.Common.{◌≡◌, take}
use Rattle.resolvo_state.specs.Chosen.{choices}
use Rattle.resolvo_turn.proofs.chosen.choices_of.Given as goal

-- the choices of the first entries
abbrev pub invariant-loop-entry : goal.invariant-loop-entry
invariant-loop-entry g l = l.chosen.items ≡ choices l.coding.atoms.keys (take l.entry-index l.entries)
