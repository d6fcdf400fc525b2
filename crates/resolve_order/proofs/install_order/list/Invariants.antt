use Rattle.resolve_order.specs.View.{AreTurnsOf}
use Rattle.resolve_order.proofs.FinishLemmas.{ListsTurns}
use Rattle.resolve_order.proofs.install_order.list.Given as goal

abbrev pub invariant-loop-turn : goal.invariant-loop-turn
invariant-loop-turn l = AreTurnsOf l.catalogue l.request.lines l.turns → ListsTurns l.catalogue l.request.lines l.turns l.turn-index l.listing
