use Rattle.std.proofs.Common.{◌∙◌}
use Rattle.std.specs.BTreeMap.{get_by_text}
use Rattle.resolvo_catalogue_core.proofs.CatalogueFacts.{kept}
use Rattle.resolvo_catalogue_core.proofs.ManyLemmas.{marked_as}
use Rattle.resolvo_catalogue_core.proofs.catalogue.Catalogue.is_many.Goals as goal

pub returns : goal.returns
returns c = c.is_many.ensures ∙ marked_as (get_by_text c.self.inside.table.many c.args.name.now) c.args.self.now c.args.name.now ((kept c.self.inside.table c.args.self.now c.self.view_is c.self.invariant.0).many c.args.name.now)
