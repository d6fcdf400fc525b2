use Rattle.std.proofs.Common.{◌≡◌, true, take, map}
use Rattle.std.specs.List.{list_all}
use Rattle.resolvo_text.specs.Matches.{Set}
use Rattle.resolvo_checker.specs.StepClauses.{Clause}
use Rattle.resolvo_checker.specs.Built.{literals_in, somes}
use Rattle.resolvo_judge.specs.Chosen.{Holds}
use Rattle.resolvo_judge.specs.ForbiddenWishes.{forbidden_of}
use Rattle.resolvo_judge.specs.Forbids.{clause_forbids}
use Rattle.resolvo_judge.proofs.forbid.rule_forbids.Given as goal

abbrev pub invariant-loop-forbidden : goal.invariant-loop-forbidden
invariant-loop-forbidden l = (set : Set) (plain : Clause) → Holds l.fn.chosen set → somes plain ≡ literals_in l.fn.versions l.fn.clause → list_all (clause_forbids set plain) (map forbidden_of (take l.forbidden-index l.wishes)) ≡ true
