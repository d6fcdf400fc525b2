use Rattle.std.proofs.Common.{subst}
use Rattle.resolvo_sat.specs.Pending.{IsPendingVisit}
use Rattle.resolvo_sat.proofs.StartLemmas.{proceeds_more, conflicts_after}
use Rattle.resolvo_sat.proofs.state.SatState.visit_pending.Goals as goal

pub returns-in-Some-clause-visited : goal.returns-in-Some-clause-visited
returns-in-Some-clause-visited c =
    conflicts_after c.in-Some.clause.0 c.args.self.now c.loop-place.self c.visit_place.new.self c.args.watching.now c.loop-place.watching c.visit_place.new.watching c.loop-place.invariant
    (subst (IsPendingVisit c.loop-place.self c.visit_place.new.self c.loop-place.watching c.visit_place.new.watching) c.in-Some.is c.in_ok-clause.ensures.visited)

pub loop-place-preserved : goal.loop-place-preserved
loop-place-preserved c =
    proceeds_more c.args.self.now c.loop-place.self c.visit_place.new.self c.args.watching.now c.loop-place.watching c.visit_place.new.watching c.loop-place.invariant
    (subst (IsPendingVisit c.loop-place.self c.visit_place.new.self c.loop-place.watching c.visit_place.new.watching) c.in_default.is c.in_ok-clause.ensures.visited)

pub returns-clause-visited : goal.returns-clause-visited
returns-clause-visited c =
    proceeds_more c.args.self.now c.loop-place.self c.index_trail-2.new.self c.args.watching.now c.loop-place.watching c.index_trail-2.new.watching c.loop-place.invariant c.in_ok-index_trail-2.ensures.proceeds
