use Rattle.std.proofs.Common.{None, Some}
use Rattle.resolvo_catalogue_core.specs.Listed.{listed}
use Rattle.resolve_order.proofs.PackageLemmas.{first_named}
use Rattle.resolve_order.proofs.chosen.package_of.Goals as goal

pub returns-in-Some : goal.returns-in-Some
returns-in-Some c = first_named (listed c.args.catalogue.now) c.args.name.now c.versions_of.result.now (Some c.in-Some.first.now) c.versions_of.ensures c.in-Some.ensures.value

pub returns-in-None : goal.returns-in-None
returns-in-None c = first_named (listed c.args.catalogue.now) c.args.name.now c.versions_of.result.now None c.versions_of.ensures c.in-None.ensures.value
