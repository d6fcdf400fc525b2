use Rattle.std.proofs.Common.{take}
use Rattle.resolve_answer.specs.ReportTurns.{AreWanted}
use Rattle.resolve_answer.proofs.turns.wanted_steps.Given as goal

-- the steps of the turns so far are wanted
abbrev pub invariant-loop-turn : goal.invariant-loop-turn
invariant-loop-turn l = record { are : AreWanted (take l.turn-index l.turns) l.wanted.items }
