use Rattle.std.proofs.Common.{◌≡◌, ◌++◌, true, Some}
use Rattle.resolvo_store_core.specs.Clauses.{literals_of, IsValueOf}
use Rattle.resolvo_store_core.specs.ReadClause.{rest_of}
use Rattle.resolvo_store_core.specs.Signed.{value_under}
use Rattle.resolvo_store_core.specs.Values.{value_at}
use Rattle.resolvo_store_core.proofs.store_clause.Clause.literals_eval.Given as goal

-- those that were looked at, and those that are left, are the clause's; none of the former is true
abbrev pub invariant-loop-literal : goal.invariant-loop-literal
invariant-loop-literal g l = record {
  whole : l.yielded ++ rest_of l.literal-iterator ≡ literals_of l.lists l.self;
  value : IsValueOf (value_under (value_at l.values)) l.yielded l.value;
  not_true : l.value ≡ Some true → ⊥;
}
