use Rattle.std.proofs.Common.{ℕ, List, sym, subst}
use Rattle.resolvo_catalogue_core.specs.Listed.{listed}
use Rattle.resolvo_catalogue_core.specs.Questions.{AreAll, IsVersionLine, BelongsTo}
use Rattle.resolvo_catalogue_core.proofs.CatalogueFacts.{kept}
use Rattle.resolvo_catalogue_core.proofs.catalogue.Catalogue.lines_of.Goals as goal

pub returns : goal.returns
returns c = subst (λ (xs : List ℕ). AreAll xs (IsVersionLine (listed c.args.self.now) c.args.self.now c.args.version.0 BelongsTo)) (sym c.lines_of.ensures) ((kept c.self.inside.table c.args.self.now c.self.view_is c.self.invariant.0).owned c.args.version.0)
