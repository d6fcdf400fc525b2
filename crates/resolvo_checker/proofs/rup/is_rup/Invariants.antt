use Rattle.std.proofs.Common.{◌≡◌, ◌+◌, drop, map, nat_eq}
use Rattle.std.specs.Prelude.{◌||◌}
use Rattle.resolvo_pool_core.specs.OnePass.{one_pass, refutes}
use Rattle.resolvo_checker.specs.Truth.{known_in}
use Rattle.resolvo_checker.specs.Literals.{literals_of, clause_at}
use Rattle.resolvo_checker.proofs.rup.is_rup.Given as goal

abbrev pub invariant-loop-cause : goal.invariant-loop-cause
invariant-loop-cause l = record {
  answer : (l.refuted || refutes nat_eq (known_in l.truth.marks.items l.truth.pass) (map (clause_at l.fn.clauses.kept) (drop l.cause-index l.causes))) ≡ one_pass nat_eq (literals_of l.fn.denied) (map (clause_at l.fn.clauses.kept) l.causes);
  kept : l.clauses.kept ≡ l.fn.clauses.kept;
  read : l.clauses.readings ≡ record l.fn.clauses.readings { read = l.fn.clauses.readings.read + l.cause-index };
  pass : l.truth.pass ≡ l.pass;
}
