use Rattle.resolvo_text.specs.View.{version_of}
use Rattle.resolvo_catalogue_core.proofs.PlaceLemmas.{found_at, not_found}
use Rattle.resolvo_catalogue_core.proofs.table.Table.listed.Goals as goal

pub returns-in-Some-clause-found : goal.returns-in-Some-clause-found
returns-in-Some-clause-found c = found_at c.args.self.now c.requires (version_of c.args.version.now) c.deref.result.now c.find.result c.in-Some.number c.deref.ensures c.find.ensures c.in-Some.is

pub returns-in-None-clause-absent : goal.returns-in-None-clause-absent
returns-in-None-clause-absent c = not_found c.args.self.now c.requires (version_of c.args.version.now) c.deref.result.now c.find.result c.deref.ensures c.find.ensures c.in-None.is
