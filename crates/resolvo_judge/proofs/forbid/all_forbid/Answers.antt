use Rattle.std.proofs.Common.{sym, ◌∙◌, take}
use Rattle.resolvo_text.specs.View.{version_of}
use Rattle.resolvo_report.specs.View.{literal_of as report_literal}
use Rattle.resolvo_checker.specs.StepClauses.{literal_of}
use Rattle.resolvo_judge.specs.Forbids.{literal_forbids}
use Rattle.resolvo_judge.proofs.ForbidLemmas.{not_all_twice}
use Rattle.resolvo_judge.proofs.forbid.all_forbid.Goals as goal

pub returns-then-not-literal_forbids : goal.returns-then-not-literal_forbids
returns-then-not-literal_forbids c = λ set h.
    sym (not_all_twice report_literal literal_of (literal_forbids (take c.args.forbidden.now.above set) (version_of c.args.forbidden.now.wish)) c.args.literals.now c.loop-literal.literal-index c.literal-item.result c.loop-literal-test.true c.literal-item.is
    (sym (c.literal_forbids.ensures set h) ∙ c.if-not-literal_forbids.true))
