use Rattle.std.proofs.Common.{◌≡◌, ◌+◌, length}
use Rattle.resolvo_store_core.specs.Watches.{HasRoomFor}
use Rattle.resolvo_sat.specs.State.{count_of}
use Rattle.resolvo_sat.proofs.PairLemmas.{TiesSoFar}
use Rattle.resolvo_sat.proofs.state.SatState.add_plain_ties.Given as goal

-- there is room for all of the ties
abbrev pub invariant-loop-digit : goal.invariant-loop-digit
invariant-loop-digit l = record {
  far : TiesSoFar l.fn.variable l.place l.digits l.digit-index l.rest l.fn.self l.self l.watching;
  room : HasRoomFor (count_of l.fn.self) (length l.fn.self.clauses + length l.digits) l.watching.watches;
  number : length l.self.clauses ≡ length l.fn.self.clauses + l.digit-index;
}
