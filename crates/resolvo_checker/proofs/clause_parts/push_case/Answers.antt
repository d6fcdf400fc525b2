use Rattle.resolvo_catalogue_core.specs.Listed.{listed}
use Rattle.resolvo_checker.specs.StepClauses.{spec_fails}
use Rattle.resolvo_checker.specs.Built.{literals_in}
use Rattle.resolvo_checker.proofs.BuiltLemmas.{one_more}
use Rattle.resolvo_checker.proofs.clause_parts.push_case.Goals as goal

pub loop-spec-preserved : goal.loop-spec-preserved
loop-spec-preserved c =
    let vs = listed c.args.catalogue.now in
    one_more (literals_in vs c.args.out.now.items) (literals_in vs c.loop-spec.out.items) (literals_in vs c.push_unmet.new.out.items) (spec_fails c.args.catalogue.now) c.args.specs.now c.loop-spec.spec-index c.spec-item.result c.loop-spec-test.true c.spec-item.is c.loop-spec.invariant c.in_ok-push_unmet.ensures
