use Rattle.std.proofs.Common.{◌≡◌, take, [], List}
use Rattle.resolvo_text.specs.Line as spelled
use Rattle.resolvo_checker.specs.StepClauses.{Clause}
use Rattle.resolvo_checker.specs.Built.{literals_in, somes}
use Rattle.resolvo_checker.specs.Keys.{Extends}
use Rattle.resolvo_checker.proofs.clause_atoms.number_all.Given as goal

abbrev pub invariant-loop-literal : goal.invariant-loop-literal
invariant-loop-literal l = (vs : List spelled.Version) (clause : Clause) → somes clause ≡ literals_in vs (take l.literal-index l.built) → Extends vs l.fn.numbers [] l.numbers l.out.items clause
