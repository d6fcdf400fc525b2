use Rattle.resolvo_encoder.proofs.Bases.{turn_then}
use Rattle.resolvo_encoder.proofs.StayLemmas.{goes_then}
use Rattle.resolvo_turn.proofs.EndLemmas.{decided_turn}
use Rattle.resolvo_turn.proofs.turn.undo_falsified.Goals as goal

pub returns-then-not-is_falsified-clause-turn : goal.returns-then-not-is_falsified-clause-turn
returns-then-not-is_falsified-clause-turn g c = decided_turn c.args.soft c.args.encoding.now c.propagate.new.self c.in_ok-is_falsified.ensures.goes_on c.in_ok-is_falsified.ensures.first c.requires.begun

pub returns-clause-stays : goal.returns-clause-stays
returns-clause-stays g c = λ p root lawful e. c.undo_turn.ensures.stays p root lawful (c.in_ok-is_falsified.ensures.stays p root lawful e)

pub returns-clause-goes_on : goal.returns-clause-goes_on
returns-clause-goes_on g c = goes_then c.args.encoding.now c.propagate.new.self c.undo_turn.new.self c.in_ok-is_falsified.ensures.goes_on c.undo_turn.ensures.goes_on

pub returns-clause-turn : goal.returns-clause-turn
returns-clause-turn g c =
    turn_then c.args.soft c.args.encoding.now c.propagate.new.self c.undo_turn.new.self
    (decided_turn c.args.soft c.args.encoding.now c.propagate.new.self c.in_ok-is_falsified.ensures.goes_on c.in_ok-is_falsified.ensures.first c.requires.begun)
    (c.undo_turn.ensures.turn c.args.soft)
