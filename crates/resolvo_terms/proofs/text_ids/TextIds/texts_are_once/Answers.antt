use Rattle.std.proofs.Common.{ℕ, List, subst}
use Rattle.resolvo_terms.specs.Terms.{AreOnce}
use Rattle.resolvo_terms.proofs.IndexLemmas.{texts_once}
use Rattle.resolvo_terms.proofs.text_ids.TextIds.texts_are_once.Goals as goal

pub returns : goal.returns
returns c = subst (λ (xs : List (List ℕ)). AreOnce xs) c.self.view_is (texts_once c.self.inside.texts c.self.inside.index.slots.numbers.items c.self.inside.index.others.entries c.self.invariant)
