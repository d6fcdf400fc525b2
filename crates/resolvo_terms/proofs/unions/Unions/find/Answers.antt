use Rattle.std.proofs.Common.{◌≡◌, List, Some, sym, subst}
use Rattle.std.specs.Prelude.{slice_get, IfSome}
use Rattle.resolvo_pool_core.specs.declared.id.VersionSetId.{VersionSetId}
use Rattle.resolvo_terms.proofs.ListLemmas.{list_if, list_absent}
use Rattle.resolvo_terms.proofs.unions.Unions.find.Goals as goal

pub returns-clause-found : goal.returns-clause-found
returns-clause-found c =
    subst (λ (xs : List (List VersionSetId)). IfSome c.in_ok-id.id (λ i. slice_get xs i ≡ Some c.args.list.now)) c.self.view_is
    (list_if c.self.inside.lists c.self.inside.index.slots.numbers.items c.self.inside.index.others.entries c.self.invariant c.args.list.now c.in_ok-id.id c.in_ok-id.ensures)

pub returns-clause-absent : goal.returns-clause-absent
returns-clause-absent c = λ none i at.
    list_absent c.self.inside.lists c.self.inside.index.slots.numbers.items c.self.inside.index.others.entries c.self.invariant c.args.list.now c.in_ok-id.id c.in_ok-id.ensures none i
    (subst (λ (xs : List (List VersionSetId)). slice_get xs i ≡ Some c.args.list.now) (sym c.self.view_is) at)
