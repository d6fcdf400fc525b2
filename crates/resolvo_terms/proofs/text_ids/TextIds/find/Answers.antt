use Rattle.std.proofs.Common.{◌≡◌, ℕ, List, Some, sym, subst}
use Rattle.std.specs.Prelude.{slice_get, IfSome}
use Rattle.resolvo_terms.proofs.IndexLemmas.{text_if, text_absent}
use Rattle.resolvo_terms.proofs.text_ids.TextIds.find.Goals as goal

pub returns-clause-found : goal.returns-clause-found
returns-clause-found c =
    let text : List ℕ = c.args.text.now in
    let is = c.number.ensures in
    subst (λ (xs : List (List ℕ)). IfSome c.number.result (λ i. slice_get xs i ≡ Some text)) c.self.view_is
    (text_if c.self.inside.texts c.self.inside.index.slots.numbers.items c.self.inside.index.others.entries c.self.invariant text c.number.result is)

pub returns-clause-absent : goal.returns-clause-absent
returns-clause-absent c = λ none i at.
    let text : List ℕ = c.args.text.now in
    let is = c.number.ensures in
    text_absent c.self.inside.texts c.self.inside.index.slots.numbers.items c.self.inside.index.others.entries c.self.invariant text c.number.result is none i
    (subst (λ (xs : List (List ℕ)). slice_get xs i ≡ Some text) (sym c.self.view_is) at)
