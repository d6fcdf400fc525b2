use Rattle.std.proofs.Common.{◌≡◌, ◌++◌, take, map, false}
use Rattle.resolvo_store_core.proofs.binary_encoding.tie_to_helper.Given as goal

abbrev pub invariant-loop-variable : goal.invariant-loop-variable
invariant-loop-variable g l = l.out.items ≡ l.initial.out.items ++ map (λ x. (x, l.helper, false)) (take l.variable-index l.variables)
