use Rattle.resolvo_catalogue_core.specs.Listed.{listed, members}
use Rattle.resolvo_catalogue_core.proofs.CatalogueFacts.{request_keeps_no_rule}
use Rattle.resolvo_catalogue_core.proofs.request.Request.keeps.Goals as goal

pub returns-in-None : goal.returns-in-None
returns-in-None c = request_keeps_no_rule c.args.self.now.lines c.args.line (members (listed c.args.catalogue.now) c.args.set.now) c.in-None.ensures.none
