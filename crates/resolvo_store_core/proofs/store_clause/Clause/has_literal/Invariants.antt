use Rattle.std.proofs.Common.{◌≡◌}
use Rattle.resolvo_store_core.specs.Clauses.{literals_of}
use Rattle.resolvo_store_core.specs.ReadClause.{rest_of}
use Rattle.resolvo_store_core.specs.Signed.{has}
use Rattle.resolvo_store_core.proofs.store_clause.Clause.has_literal.Given as goal

-- the literal is among all of them exactly if it is among those that are left
abbrev pub invariant-loop-own : goal.invariant-loop-own
invariant-loop-own g l = has (literals_of l.lists l.self) l.literal ≡ has (rest_of l.own-iterator) l.literal
