use Rattle.resolvo_catalogue_core.specs.Listed.{listed}
use Rattle.resolvo_text.specs.Matches.{matches}
use Rattle.resolvo_checker.specs.StepClauses.{each_listed}
use Rattle.resolvo_checker.specs.Built.{literals_in}
use Rattle.resolvo_checker.proofs.BuiltLemmas.{one_more}
use Rattle.resolvo_checker.proofs.clause_parts.push_matches.Goals as goal

pub loop-spec-preserved : goal.loop-spec-preserved
loop-spec-preserved c =
    let vs = listed c.args.catalogue.now in
    one_more (literals_in vs c.args.out.now.items) (literals_in vs c.loop-spec.out.items) (literals_in vs c.push_each.new.out.items) (λ s. each_listed c.args.catalogue.now (matches s)) c.args.alternatives.now c.loop-spec.spec-index c.spec-item.result c.loop-spec-test.true c.spec-item.is c.loop-spec.invariant c.in_ok-push_each.ensures
