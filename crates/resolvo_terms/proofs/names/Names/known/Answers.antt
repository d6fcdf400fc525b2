use Rattle.std.proofs.Common.{◌≡◌, ℕ, List, Some, subst}
use Rattle.std.specs.Prelude.{slice_get}
use Rattle.resolvo_terms.proofs.names.Names.known.Goals as goal

pub returns-then-number-self-clause-number : goal.returns-then-number-self-clause-number
returns-then-number-self-clause-number c = subst (λ (xs : List (List ℕ)). slice_get xs c.in_ok-number.number ≡ Some c.args.word.now) c.self.view_is c.in_ok-number.ensures.found

pub returns-then-number-self-clause-name : goal.returns-then-number-self-clause-name
returns-then-number-self-clause-name c = c.self.invariant.names c.in_ok-number.number c.args.word.now c.if-number-self.true c.in_ok-number.ensures.found
