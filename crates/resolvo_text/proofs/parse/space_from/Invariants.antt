use Rattle.resolvo_text.specs.Parse.{NoSpaceBefore}
use Rattle.resolvo_text.proofs.parse.space_from.Given as goal

abbrev pub invariant-loop-at : goal.invariant-loop-at
invariant-loop-at l = NoSpaceBefore l.text l.at
