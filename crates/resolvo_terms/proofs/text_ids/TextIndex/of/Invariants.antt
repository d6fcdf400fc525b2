use Rattle.resolvo_terms.specs.Found.{AreTextsFound}
use Rattle.resolvo_terms.proofs.text_ids.TextIndex.of.Given as goal

abbrev pub invariant-loop-number : goal.invariant-loop-number
invariant-loop-number l = AreTextsFound l.texts l.index.slots.numbers.items l.index.others.entries l.number
