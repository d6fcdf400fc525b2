use Rattle.std.proofs.Common.{◌≡◌, ◌++◌, take, map}
use Rattle.resolvo_store_core.specs.Cases.{cases_of}
use Rattle.resolvo_store_core.proofs.conditions.with_each.Given as goal

abbrev pub invariant-loop-case : goal.invariant-loop-case
invariant-loop-case l = cases_of l.all.items ≡ map (λ r. l.left ++ r) (cases_of (take l.case-index l.right))
