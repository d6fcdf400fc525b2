use Rattle.std.proofs.Common.{◌≤◌, ◌^◌, length, subst}
use Rattle.resolvo_store_core.specs.AtMostOne.{Tracking}
use Rattle.resolvo_store_core.proofs.Ties.{ties_from-length, met_is_at_most_one, at_most_one_is_met}
use Rattle.resolvo_store_core.proofs.binary_encoding.AtMostOnceTracker.at_most_one_law.Goals as goal

pub returns-clause-count : goal.returns-clause-count
returns-clause-count g c = ties_from-length 0 c.args.self.now.variables c.args.self.now.helpers

pub returns-clause-exact : goal.returns-clause-exact
returns-clause-exact g c = λ value.
    (met_is_at_most_one c.args.self.now value (subst (λ (t : Tracking g.row.V.Denot). length t.variables ≤ 2 ^ length t.helpers) c.self.view_is c.self.invariant.0), at_most_one_is_met c.args.self.now value)
