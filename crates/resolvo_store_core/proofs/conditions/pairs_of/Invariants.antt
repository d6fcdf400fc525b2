use Rattle.std.proofs.Common.{◌≡◌, take}
use Rattle.resolvo_store_core.specs.Cases.{cases_of, pairs}
use Rattle.resolvo_store_core.proofs.conditions.pairs_of.Given as goal

abbrev pub invariant-loop-case : goal.invariant-loop-case
invariant-loop-case l = cases_of l.all.items ≡ pairs (cases_of (take l.case-index l.left)) (cases_of l.right)
