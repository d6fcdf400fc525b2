use Rattle.std.proofs.Common.{◌*◌}
use Rattle.resolvo_text.specs.Parse.{NoSpaceBefore}
use Rattle.resolvo_text.proofs.parse.space_in.Given as goal

abbrev pub invariant-loop-four : goal.invariant-loop-four
invariant-loop-four l = NoSpaceBefore l.text (l.four * 4)
