use Rattle.std.proofs.Common.{◌≡◌, ℕ, List, Some, subst}
use Rattle.std.specs.Prelude.{slice_get, IfSome}
use Rattle.resolvo_terms.specs.Known.{place_of}
use Rattle.resolvo_terms.proofs.IndexLemmas.{text_if, text_absent, texts_once}
use Rattle.resolvo_terms.proofs.TextPlaces.{place_by}
use Rattle.resolvo_terms.proofs.text_ids.TextIds.number.Goals as goal

pub returns-clause-found : goal.returns-clause-found
returns-clause-found c =
    let text : List ℕ = c.args.text.now in
    subst (λ (xs : List (List ℕ)). IfSome c.number.result (λ i. slice_get xs i ≡ Some text)) c.self.view_is
    (text_if c.self.inside.texts c.self.inside.index.slots.numbers.items c.self.inside.index.others.entries c.self.invariant text c.number.result c.number.ensures)

pub returns-clause-place : goal.returns-clause-place
returns-clause-place c =
    let text : List ℕ = c.args.text.now in
    let texts = c.self.inside.texts in
    let slots = c.self.inside.index.slots.numbers.items in
    let others = c.self.inside.index.others.entries in
    subst (λ (xs : List (List ℕ)). c.number.result ≡ place_of xs text) c.self.view_is
    (place_by texts text c.number.result (texts_once texts slots others c.self.invariant) (text_if texts slots others c.self.invariant text c.number.result c.number.ensures)
    (λ none i at. text_absent texts slots others c.self.invariant text c.number.result c.number.ensures none i at))
