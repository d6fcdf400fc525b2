use Rattle.std.proofs.Common.{◌≡◌, true, take, map}
use Rattle.std.specs.List.{list_all}
use Rattle.resolvo_text.specs.Matches.{Set}
use Rattle.resolvo_report.specs.View.{literals_of}
use Rattle.resolvo_checker.specs.StepClauses.{literal_of}
use Rattle.resolvo_judge.specs.Chosen.{Holds}
use Rattle.resolvo_judge.specs.ForbiddenWishes.{forbidden_of}
use Rattle.resolvo_judge.specs.Forbids.{clause_forbids}
use Rattle.resolvo_judge.proofs.forbid.derived_forbids.Given as goal

abbrev pub invariant-loop-forbidden : goal.invariant-loop-forbidden
invariant-loop-forbidden l = (set : Set) → Holds l.fn.chosen set → list_all (clause_forbids set (map literal_of (literals_of l.fn.literals))) (map forbidden_of (take l.forbidden-index l.wishes)) ≡ true
