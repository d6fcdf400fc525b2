use Rattle.std.proofs.Common.{◌≡◌, ◌∙◌, ℕ, List, Some, length, sym, subst}
use Rattle.std.specs.Prelude.{slice_get}
use Rattle.resolvo_terms.specs.Found.{AreTextsFound}
use Rattle.resolvo_terms.proofs.FoundLemmas.{last_there, extends_to}
use Rattle.resolvo_terms.proofs.IndexLemmas.{texts_more}
use Rattle.resolvo_terms.proofs.text_ids.TextIds.add.Goals as goal

pub invariant_of-self-in-Ok : goal.invariant_of-self-in-Ok
invariant_of-self-in-Ok c =
    let index = c.self.inside.index in
    let count : c.in_ok-index.index ≡ length c.self.inside.texts = c.in_ok-index.ensures.index.0 ∙ c.len.ensures in
    subst (λ (xs : List (List ℕ)). AreTextsFound xs c.put.new.self.slots.numbers.items c.put.new.self.others.entries (length xs)) (sym c.in_ok-push.ensures.added)
    (texts_more index.slots.numbers.items c.put.new.self.slots.numbers.items index.others.entries c.put.new.self.others.entries c.args.text.now c.self.inside.texts c.in_ok-index.index count c.self.invariant
    (λ i at. c.requires.absent i (subst (λ (xs : List (List ℕ)). slice_get xs i ≡ Some c.args.text.now) c.self.view_is at)) c.in-Ok.ensures.put)

pub returns-in-Ok-clause-text : goal.returns-in-Ok-clause-text
returns-in-Ok-clause-text c = last_there c.self.inside.texts c.push.new.self c.args.text.now c.in_ok-push.ensures.added c.in_ok-index.index (c.in_ok-index.ensures.index.0 ∙ c.len.ensures)

pub returns-in-Ok-clause-extends : goal.returns-in-Ok-clause-extends
returns-in-Ok-clause-extends c = λ k x e. extends_to c.self.inside.texts c.push.new.self c.args.text.now c.in_ok-push.ensures.added k x (subst (λ (xs : List (List ℕ)). slice_get xs k ≡ Some x) (sym c.self.view_is) e)
