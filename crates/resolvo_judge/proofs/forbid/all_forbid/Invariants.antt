use Rattle.std.proofs.Common.{◌≡◌, true, take, map}
use Rattle.resolvo_text.specs.Matches.{Set}
use Rattle.resolvo_text.specs.View.{version_of}
use Rattle.resolvo_report.specs.View.{literals_of}
use Rattle.resolvo_checker.specs.StepClauses.{literal_of}
use Rattle.resolvo_checker.specs.Proof.{forbids}
use Rattle.resolvo_judge.specs.Chosen.{Holds}
use Rattle.resolvo_judge.proofs.forbid.all_forbid.Given as goal

abbrev pub invariant-loop-literal : goal.invariant-loop-literal
invariant-loop-literal l = (set : Set) → Holds l.fn.chosen set → forbids (take l.fn.forbidden.above set) (version_of l.fn.forbidden.wish) (map literal_of (literals_of (take l.literal-index l.literals))) ≡ true
