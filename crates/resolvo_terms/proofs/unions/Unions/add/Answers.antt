use Rattle.std.proofs.Common.{◌≡◌, ◌∙◌, ◌∷◌, ◌++◌, [], List, Some, length, sym, ap, subst}
use Rattle.std.specs.Prelude.{slice_get}
use Rattle.resolvo_pool_core.specs.declared.id.VersionSetId.{VersionSetId}
use Rattle.resolvo_terms.specs.Lists.{AreListsFound}
use Rattle.resolvo_terms.proofs.FoundLemmas.{last_there}
use Rattle.resolvo_terms.proofs.ListLemmas.{lists_more}
use Rattle.resolvo_terms.proofs.unions.Unions.add.Goals as goal

pub invariant_of-self-in-Ok : goal.invariant_of-self-in-Ok
invariant_of-self-in-Ok c =
    let index = c.self.inside.index in
    let count : c.in_ok-index.index ≡ length c.self.inside.lists = c.in_ok-index.ensures.index.0 ∙ c.len.ensures in
    subst (λ (xs : List (List VersionSetId)). AreListsFound xs c.put.new.self.slots.numbers.items c.put.new.self.others.entries (length xs)) (sym c.in_ok-push.ensures.added)
    (lists_more index.slots.numbers.items c.put.new.self.slots.numbers.items index.others.entries c.put.new.self.others.entries c.args.list.now c.self.inside.lists c.in_ok-index.index count c.self.invariant
    (λ i at. c.requires.absent i (subst (λ (xs : List (List VersionSetId)). slice_get xs i ≡ Some c.args.list.now) c.self.view_is at)) c.in-Ok.ensures.put)

pub returns-in-Ok-clause-list : goal.returns-in-Ok-clause-list
returns-in-Ok-clause-list c = last_there c.self.inside.lists c.push.new.self c.args.list.now c.in_ok-push.ensures.added c.in_ok-index.index (c.in_ok-index.ensures.index.0 ∙ c.len.ensures)

pub returns-in-Ok-clause-more : goal.returns-in-Ok-clause-more
returns-in-Ok-clause-more c = c.in_ok-push.ensures.added ∙ ap (λ (xs : List (List VersionSetId)). xs ++ c.args.list.now ∷ []) c.self.view_is
