use Rattle.std.proofs.Common.{List, subst}
use Rattle.std.specs.Prelude.{OnErr, Contains}
use Rattle.resolvo_text.specs.Line.{Line, Listed}
use Rattle.resolvo_text.specs.View.{version_of}
use Rattle.resolvo_catalogue_core.proofs.CatalogueFacts.{distinct_listed}
use Rattle.resolvo_catalogue_core.proofs.catalogue.Catalogue.listed.Goals as goal

pub returns-clause-absent : goal.returns-clause-absent
returns-clause-absent c = subst (λ (ls : List Line). OnErr c.listed.result (Contains ls (Listed (version_of c.args.version.now)) → ⊥)) c.self.view_is c.listed.ensures.absent

pub returns-clause-distinct : goal.returns-clause-distinct
returns-clause-distinct c = distinct_listed c.self.inside.table c.args.self.now c.self.view_is c.self.invariant.0
