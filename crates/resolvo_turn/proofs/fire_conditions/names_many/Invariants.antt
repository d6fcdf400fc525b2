use Rattle.std.proofs.Common.{◌≡◌}
use Rattle.resolvo_turn.proofs.fire_conditions.names_many.Given as goal

abbrev pub invariant-loop-conjunct : goal.invariant-loop-conjunct
invariant-loop-conjunct g l = l.answers ≡ l.initial.answers
