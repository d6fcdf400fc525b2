use Rattle.std.proofs.Common.{◌≡◌, drop, nat_eq}
use Rattle.resolvo_pool_core.specs.OnePass.{deny}
use Rattle.resolvo_checker.specs.Truth.{known_in}
use Rattle.resolvo_checker.specs.Literals.{literals_of}
use Rattle.resolvo_checker.proofs.rup.deny_all.Given as goal

abbrev pub invariant-loop-literal : goal.invariant-loop-literal
invariant-loop-literal l = record {
  known : deny nat_eq (known_in l.truth.marks.items l.truth.pass) (literals_of (drop l.literal-index l.clause)) ≡ deny nat_eq (known_in l.fn.truth.marks.items l.fn.truth.pass) (literals_of l.clause);
  pass : l.truth.pass ≡ l.fn.truth.pass;
}
