use Rattle.std.proofs.Common.{◌≡◌, ◌++◌, ◌||◌, true, Some, All}
use Rattle.resolvo_store_core.specs.Clauses.{literals_of}
use Rattle.resolvo_store_core.specs.ReadClause.{rest_of}
use Rattle.resolvo_store_core.specs.Signed.{value_under, is_false}
use Rattle.resolvo_store_core.specs.Pairs.{watches}
use Rattle.resolvo_store_core.specs.Values.{value_at}
use Rattle.resolvo_store_core.proofs.watched_literals.WatchedLiterals.next_unwatched_literal.Given as goal

-- those that were looked at, and those that are left, are the clause's; the former are watched or false
abbrev pub invariant-loop-literal : goal.invariant-loop-literal
invariant-loop-literal g l = record {
  whole : l.yielded ++ rest_of l.literal-iterator ≡ literals_of l.lists l.clause;
  passed : All (λ m. (watches (Some l.self) m || is_false (value_under (value_at l.values) m)) ≡ true) l.yielded;
}
