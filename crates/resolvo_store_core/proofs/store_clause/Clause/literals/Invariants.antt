use Rattle.std.proofs.Common.{◌≡◌, ◌++◌}
use Rattle.resolvo_store_core.specs.Clauses.{literals_of}
use Rattle.resolvo_store_core.specs.ReadClause.{rest_of}
use Rattle.resolvo_store_core.proofs.store_clause.Clause.literals.Given as goal

-- those that were put in, and those that are left, are the clause's
abbrev pub invariant-loop-literal : goal.invariant-loop-literal
invariant-loop-literal g l = l.literals.items ++ rest_of l.literal-iterator ≡ literals_of l.lists l.self
