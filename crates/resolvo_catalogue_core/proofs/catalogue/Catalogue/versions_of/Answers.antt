use Rattle.std.proofs.Common.{ℕ, List, sym, subst}
use Rattle.resolvo_catalogue_core.specs.Listed.{listed}
use Rattle.resolvo_catalogue_core.specs.Questions.{AreAll, IsOfPackage}
use Rattle.resolvo_catalogue_core.proofs.CatalogueFacts.{kept}
use Rattle.resolvo_catalogue_core.proofs.catalogue.Catalogue.versions_of.Goals as goal

pub returns : goal.returns
returns c = subst (λ (xs : List ℕ). AreAll xs (IsOfPackage (listed c.args.self.now) c.args.name.now)) (sym c.versions_of.ensures) ((kept c.self.inside.table c.args.self.now c.self.view_is c.self.invariant.0).packages c.args.name.now).all
