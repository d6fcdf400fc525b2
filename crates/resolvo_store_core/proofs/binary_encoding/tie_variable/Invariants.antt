use Rattle.std.proofs.Common.{◌≡◌, ◌++◌, drop}
use Rattle.resolvo_store_core.specs.AtMostOne.{ties, IsPrefixOf}
use Rattle.resolvo_store_core.proofs.binary_encoding.tie_variable.Given as goal

abbrev pub invariant-loop-helper : goal.invariant-loop-helper
invariant-loop-helper g l = (l.out.items ++ ties l.rest l.variable (drop l.helper-index l.helpers) ≡ l.initial.out.items ++ ties l.place l.variable l.helpers) × IsPrefixOf l.initial.out.items l.out.items
