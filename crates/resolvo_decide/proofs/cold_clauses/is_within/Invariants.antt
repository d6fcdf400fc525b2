use Rattle.std.proofs.Common.{◌≤◌, length, take}
use Rattle.std.specs.Prelude.{Contains}
use Rattle.resolvo_decide.proofs.cold_clauses.is_within.Given as goal

-- the names found so far are among all
abbrev pub invariant-loop-name : goal.invariant-loop-name
invariant-loop-name g l = record {
  low : l.found ≤ length l.names;
  within : (n : g.row.N.Denot) → Contains (take l.found l.names) n → Contains l.all n;
}
