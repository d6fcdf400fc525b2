use Rattle.std.proofs.Common.{◌≡◌, take}
use Rattle.resolvo_terms.proofs.numbered.values_copied.Given as goal

abbrev pub invariant-loop-value : goal.invariant-loop-value
invariant-loop-value g l = l.copy.items ≡ take l.value-index l.values
