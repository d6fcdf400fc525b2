use Rattle.std.proofs.Common.{sym, ◌∙◌, map}
use Rattle.resolvo_report.specs.View.{literals_of}
use Rattle.resolvo_checker.specs.StepClauses.{literal_of}
use Rattle.resolvo_judge.specs.ForbiddenWishes.{forbidden_of}
use Rattle.resolvo_judge.specs.Forbids.{clause_forbids}
use Rattle.resolvo_judge.proofs.ForbidLemmas.{not_all_at}
use Rattle.resolvo_judge.proofs.forbid.derived_forbids.Goals as goal

pub returns-then-not-all_forbid : goal.returns-then-not-all_forbid
returns-then-not-all_forbid c = λ set h.
    sym (not_all_at forbidden_of (clause_forbids set (map literal_of (literals_of c.args.literals.now))) c.args.wishes.now c.loop-forbidden.forbidden-index c.forbidden-item.result c.loop-forbidden-test.true c.forbidden-item.is
    (sym (c.all_forbid.ensures set h) ∙ c.if-not-all_forbid.true))
