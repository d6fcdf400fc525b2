use Rattle.std.proofs.Common.{◌≡◌, take}
use Rattle.resolvo_decide.proofs.cold_clauses.is_same.Given as goal

-- the names so far are the same
abbrev pub invariant-loop-i : goal.invariant-loop-i
invariant-loop-i g l = take l.i l.names ≡ take l.i l.others
