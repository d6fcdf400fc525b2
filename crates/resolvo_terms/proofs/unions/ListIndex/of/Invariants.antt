use Rattle.resolvo_terms.specs.Lists.{AreListsFound}
use Rattle.resolvo_terms.proofs.unions.ListIndex.of.Given as goal

abbrev pub invariant-loop-number : goal.invariant-loop-number
invariant-loop-number l = AreListsFound l.lists l.index.slots.numbers.items l.index.others.entries l.number
