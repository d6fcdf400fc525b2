use Rattle.std.proofs.Common.{◌≡◌, ℕ, List, Option, Some, sym, subst}
use Rattle.std.specs.Prelude.{slice_get}
use Rattle.resolvo_text.specs.Line.{Version, Line}
use Rattle.resolvo_catalogue_core.specs.Listed.{version_at}
use Rattle.resolvo_catalogue_core.specs.Questions.{IsOnly}
use Rattle.resolvo_catalogue_core.proofs.CatalogueFacts.{kept}
use Rattle.resolvo_catalogue_core.proofs.catalogue.Catalogue.find_beside.Goals as goal

pub returns : goal.returns
returns c = λ v at.
    let k = c.args.version.0 in
    let w : Version = record { name = v.name; number = c.args.number } in
    let keeps = kept c.self.inside.table c.args.self.now c.self.view_is c.self.invariant.0 in
    let here = subst (λ (vs : List Version). slice_get vs k ≡ Some v) c.self.invariant.0.listing (subst (λ (ls : List Line). version_at ls k ≡ Some v) (sym c.self.view_is) at) in
    subst (λ (o : Option ℕ). IsOnly o (λ n. version_at c.args.self.now n ≡ Some w)) (sym (c.find_beside.ensures v here)) ((keeps.packages v.name).numbers c.args.number)
