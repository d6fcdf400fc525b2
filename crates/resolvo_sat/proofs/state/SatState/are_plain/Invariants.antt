use Rattle.std.proofs.Common.{ℕ, ◌<◌, get_or}
use Rattle.resolvo_sat.specs.Entries.{made_true}
use Rattle.resolvo_sat.specs.State.{history}
use Rattle.resolvo_sat.specs.AddClause.{IsPlainDigit}
use Rattle.resolvo_sat.proofs.state.SatState.are_plain.Given as goal

-- the digits so far are plain
abbrev pub invariant-loop-digit : goal.invariant-loop-digit
invariant-loop-digit l = (k : ℕ) → k < l.digit-index → IsPlainDigit (made_true (history l.self)) l.variable (get_or l.digits k (record { 0 = 0 }))
