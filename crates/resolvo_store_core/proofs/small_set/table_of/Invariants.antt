use Rattle.std.proofs.Common.{take}
use Rattle.std.specs.HashSet.{contains}
use Rattle.resolvo_store_core.specs.SmallSets.{Finds}
use Rattle.resolvo_store_core.proofs.small_set.table_of.Given as goal

-- the table has the values so far
abbrev pub invariant-loop-value : goal.invariant-loop-value
invariant-loop-value g l = Finds g.V.PartialEq.eq (contains g.V.PartialEq.eq l.table) (take l.value-index l.values)
