use Rattle.resolvo_catalogue_core.proofs.CatalogueFacts.{ok_map}
use Rattle.resolvo_judge.proofs.entries.Entries.take.Goals as goal

pub returns-in-LeftOut-clause-fits : goal.returns-in-LeftOut-clause-fits
returns-in-LeftOut-clause-fits c = rw c.in-LeftOut.is (ok_map c.take_left_out.result c.take_left_out.ensures.fits (λ fits all before h. all c.args.catalogue.now before h))
