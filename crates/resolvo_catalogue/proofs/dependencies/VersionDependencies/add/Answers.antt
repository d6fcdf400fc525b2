use Rattle.resolvo_catalogue.specs.Dependencies.{deps_of}
use Rattle.resolvo_catalogue.proofs.DependencyLemmas.{deps_of_stay, deps_need, deps_limit}
use Rattle.resolvo_catalogue.proofs.dependencies.VersionDependencies.add.Goals as goal

pub returns-in_ok-push-in-Needs-clause-as_ids : goal.returns-in_ok-push-in-Needs-clause-as_ids
returns-in_ok-push-in-Needs-clause-as_ids c versions line lines states as_ids =
    let line_is = rw c.in-Needs.is at states in
    deps_need c.need.new.self lines (deps_of c.args.self.now) (deps_of_stay c.args.ids.now c.need.new.self c.need.ensures.interns.grows lines _ as_ids) line _ _ c.in_ok-need-in-Needs.need _ line_is.0
    (rw (c.as_slice.ensures, c.as_ref.ensures.value) at c.in_ok-need-in-Needs.ensures.need) c.in_ok-push-in-Needs.ensures.items

pub returns-in_ok-push-in-Limits-clause-as_ids : goal.returns-in_ok-push-in-Limits-clause-as_ids
returns-in_ok-push-in-Limits-clause-as_ids c versions line lines states as_ids =
    let line_is = rw c.in-Limits.is at states in
    deps_limit c.spec.new.self lines (deps_of c.args.self.now) (deps_of_stay c.args.ids.now c.spec.new.self c.spec.ensures.interns.grows lines _ as_ids) line _ c.in_ok-version_set-in-Limits.version_set _ line_is.0 c.in_ok-version_set-in-Limits.ensures.spec c.in_ok-push-in-Limits.ensures.items
