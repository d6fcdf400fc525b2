use Rattle.std.proofs.Common.{◌≡◌, ◌∙◌, ℕ, List, Some, sym, subst}
use Rattle.std.specs.Prelude.{slice_get}
use Rattle.resolvo_terms.proofs.NameLemmas.{known_read, no_name}
use Rattle.resolvo_terms.proofs.names.Names.read_old.Goals as goal

pub returns-then-number-self : goal.returns-then-number-self
returns-then-number-self c =
    let word : List ℕ = c.args.word.now in
    let at = subst (λ (xs : List (List ℕ)). slice_get xs c.args.number ≡ Some word) (sym c.self.view_is) c.requires in
    known_read c.args.self.now c.args.number word c.requires (c.self.invariant.names c.args.number word c.if-number-self.true at)

pub returns-then-is_name : goal.returns-then-is_name
returns-then-is_name c = known_read c.args.self.now c.args.number c.args.word.now c.requires (sym c.is_name.ensures ∙ c.if-is_name.true)

pub returns : goal.returns
returns c = no_name c.args.word.now (sym c.is_name.ensures ∙ c.if-is_name.false)
