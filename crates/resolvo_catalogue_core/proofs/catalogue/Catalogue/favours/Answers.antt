use Rattle.std.proofs.Common.{ℕ, List, map, sym, ap, subst}
use Rattle.resolvo_catalogue_core.specs.Questions.{AreAll, LineIs, IsFavour}
use Rattle.resolvo_catalogue_core.proofs.CatalogueFacts.{kept}
use Rattle.resolvo_catalogue_core.proofs.catalogue.Catalogue.favours.Goals as goal

pub returns-clause-lines : goal.returns-clause-lines
returns-clause-lines c = subst (λ (xs : List ℕ). AreAll xs (λ n. LineIs c.args.self.now n IsFavour)) (ap (λ fs. map (λ f. f.0) fs) (sym c.deref.ensures.value)) (kept c.self.inside.table c.args.self.now c.self.view_is c.self.invariant.0).favour_lines
