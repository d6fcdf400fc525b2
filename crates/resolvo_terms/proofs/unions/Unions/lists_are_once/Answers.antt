use Rattle.std.proofs.Common.{List, subst}
use Rattle.resolvo_pool_core.specs.declared.id.VersionSetId.{VersionSetId}
use Rattle.resolvo_terms.specs.Terms.{AreOnce}
use Rattle.resolvo_terms.proofs.ListLemmas.{lists_once}
use Rattle.resolvo_terms.proofs.unions.Unions.lists_are_once.Goals as goal

pub returns : goal.returns
returns c = subst (λ (xs : List (List VersionSetId)). AreOnce xs) c.self.view_is (lists_once c.self.inside.lists c.self.inside.index.slots.numbers.items c.self.inside.index.others.entries c.self.invariant)
