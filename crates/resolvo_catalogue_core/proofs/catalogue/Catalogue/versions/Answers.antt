use Rattle.std.proofs.Common.{sym, ap, ◌∙◌}
use Rattle.resolvo_catalogue_core.specs.Listed.{listed}
use Rattle.resolvo_catalogue_core.proofs.CatalogueFacts.{distinct_listed}
use Rattle.resolvo_catalogue_core.proofs.catalogue.Catalogue.versions.Goals as goal

pub returns-clause-listed : goal.returns-clause-listed
returns-clause-listed c = c.versions.ensures ∙ (sym c.self.invariant.0.listing ∙ ap listed c.self.view_is)

pub returns-clause-distinct : goal.returns-clause-distinct
returns-clause-distinct c = distinct_listed c.self.inside.table c.args.self.now c.self.view_is c.self.invariant.0
