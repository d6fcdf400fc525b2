use Rattle.std.proofs.Common.{ap, sym, ◌∙◌, take}
use Rattle.resolvo_text.specs.View.{version_of}
use Rattle.resolvo_judge.specs.ForbiddenWishes.{forbidden_of}
use Rattle.resolvo_judge.specs.Forbids.{built_forbid, clause_forbids}
use Rattle.resolvo_judge.proofs.ForbidLemmas.{built_alike, not_all_at, all_more}
use Rattle.resolvo_judge.proofs.forbid.rule_forbids.Goals as goal

pub returns-then-not-all_built_forbid : goal.returns-then-not-all_built_forbid
returns-then-not-all_built_forbid c = λ set plain h is.
    let entries = take c.forbidden-item.result.above set in
    let wish = version_of c.forbidden-item.result.wish in
    sym (not_all_at forbidden_of (clause_forbids set plain) c.args.wishes.now c.loop-forbidden.forbidden-index c.forbidden-item.result c.loop-forbidden-test.true c.forbidden-item.is
    (sym (built_alike entries wish plain) ∙ (ap (built_forbid entries wish) is ∙ (sym (c.all_built_forbid.ensures set h) ∙ c.if-not-all_built_forbid.true))))

pub loop-forbidden-preserved : goal.loop-forbidden-preserved
loop-forbidden-preserved c = λ set plain h is.
    let entries = take c.forbidden-item.result.above set in
    let wish = version_of c.forbidden-item.result.wish in
    all_more forbidden_of (clause_forbids set plain) c.args.wishes.now c.loop-forbidden.forbidden-index c.forbidden-item.result c.loop-forbidden-test.true c.forbidden-item.is (c.loop-forbidden.invariant set plain h is)
    (sym (built_alike entries wish plain) ∙ (ap (built_forbid entries wish) is ∙ (sym (c.all_built_forbid.ensures set h) ∙ c.if-not-all_built_forbid.false)))
