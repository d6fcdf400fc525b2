use Rattle.std.proofs.Common.{◌≡◌, List, ℕ, length, ◌++◌}
use Rattle.resolve_check.specs.Input.{IsAbove}
use Rattle.resolve_check.proofs.input.split_input.Given as goal

abbrev pub invariant-loop-line : goal.invariant-loop-line
invariant-loop-line l = (above : List ℕ) × (l.input ≡ above ++ l.rest) × (length above ≡ l.start) × IsAbove above

abbrev pub decreases-loop-line : goal.decreases-loop-line
decreases-loop-line l = length l.rest
