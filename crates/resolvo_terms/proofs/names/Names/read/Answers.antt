use Rattle.std.proofs.Common.{◌≡◌, ℕ, List, Some, refl, sym, subst}
use Rattle.std.specs.Prelude.{slice_get}
use Rattle.resolvo_terms.proofs.names.Names.read.Goals as goal

pub read_old-requires : goal.read_old-requires
read_old-requires c = subst (λ (xs : List (List ℕ)). slice_get xs c.in-Some.number ≡ Some c.args.word.now) c.self.view_is c.in-Some.ensures.found

pub read_new-requires-clause-absent : goal.read_new-requires-clause-absent
read_new-requires-clause-absent c = λ i at. c.in_default.ensures.absent refl i (subst (λ (xs : List (List ℕ)). slice_get xs i ≡ Some c.args.word.now) (sym c.self.view_is) at)
