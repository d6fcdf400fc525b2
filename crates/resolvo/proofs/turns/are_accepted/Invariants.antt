use Rattle.std.proofs.Common.{take}
use Rattle.resolvo.specs.Turns.{AreAccepted}
use Rattle.resolvo.proofs.turns.are_accepted.Given as goal

-- the turns so far accepted theirs
abbrev pub invariant-loop-turn : goal.invariant-loop-turn
invariant-loop-turn g l = AreAccepted (take l.turn-index l.turns)
