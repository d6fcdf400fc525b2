use Rattle.std.proofs.Common.{ℕ, Option, Some, ◌≡◌, sym, subst}
use Rattle.resolvo_text.specs.Line.{Version}
use Rattle.resolvo_catalogue_core.specs.Listed.{version_at}
use Rattle.resolvo_catalogue_core.specs.Questions.{IsOnly}
use Rattle.resolvo_catalogue_core.proofs.CatalogueFacts.{kept}
use Rattle.resolvo_catalogue_core.proofs.catalogue.Catalogue.find.Goals as goal

pub returns : goal.returns
returns c =
    let v : Version = record { name = c.args.name.now; number = c.args.number } in
    subst (λ (o : Option ℕ). IsOnly o (λ n. version_at c.args.self.now n ≡ Some v)) (sym c.find.ensures) (((kept c.self.inside.table c.args.self.now c.self.view_is c.self.invariant.0).packages c.args.name.now).numbers c.args.number)
