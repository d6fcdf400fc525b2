use Rattle.std.proofs.Common.{◌≡◌, take, nat_eq}
use Rattle.resolvo_pool_core.specs.OnePass.{reading}
use Rattle.resolvo_checker.specs.Truth.{known_in}
use Rattle.resolvo_checker.specs.Literals.{literals_of, status_of}
use Rattle.resolvo_checker.proofs.rup.status_of.Given as goal

abbrev pub invariant-loop-literal : goal.invariant-loop-literal
invariant-loop-literal l = status_of l.status ≡ reading nat_eq (known_in l.truth.marks.items l.truth.pass) (literals_of (take l.literal-index l.clause))
