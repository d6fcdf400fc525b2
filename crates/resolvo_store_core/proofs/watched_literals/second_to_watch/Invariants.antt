use Rattle.std.proofs.Common.{◌≡◌, ◌++◌}
use Rattle.resolvo_store_core.specs.Clauses.{literals_of}
use Rattle.resolvo_store_core.specs.ReadClause.{rest_of}
use Rattle.resolvo_store_core.specs.Signed.{value_under}
use Rattle.resolvo_store_core.specs.Values.{value_at}
use Rattle.resolvo_store_core.specs.Watchable.{IsSecondSoFar}
use Rattle.resolvo_store_core.proofs.watched_literals.second_to_watch.Given as goal

-- those that were looked at, and those that are left, are the clause's
abbrev pub invariant-loop-literal : goal.invariant-loop-literal
invariant-loop-literal g l = record {
  whole : l.yielded ++ rest_of l.literal-iterator ≡ literals_of l.lists l.clause;
  so_far : IsSecondSoFar (value_under (value_at l.values)) l.first l.yielded l.second;
}
