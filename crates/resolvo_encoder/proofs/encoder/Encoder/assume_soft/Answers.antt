use Rattle.std.proofs.Common.{Some}
use Rattle.resolvo_encoder.proofs.StayLemmas.{goes_then}
use Rattle.resolvo_encoder.proofs.Bases.{turn_has, turn_then}
use Rattle.resolvo_encoder.proofs.encoder.Encoder.assume_soft.Goals as goal

pub choose_or_refute-requires-clause-turn : goal.choose_or_refute-requires-clause-turn
choose_or_refute-requires-clause-turn g c = turn_has (Some c.args.variable) c.args.self.now c.undo_turn.new.self c.requires.turn (c.undo_turn.ensures.turn (Some c.args.variable))

pub returns-clause-stays : goal.returns-clause-stays
returns-clause-stays g c = λ p root lawful e. c.in_ok-refusal.ensures.stays p root lawful (c.undo_turn.ensures.stays p root lawful e)

pub returns-clause-goes_on : goal.returns-clause-goes_on
returns-clause-goes_on g c = goes_then c.args.self.now c.undo_turn.new.self c.choose_or_refute.new.self c.undo_turn.ensures.goes_on c.in_ok-refusal.ensures.goes_on

pub returns-clause-turn : goal.returns-clause-turn
returns-clause-turn g c = turn_then (Some c.args.variable) c.args.self.now c.undo_turn.new.self c.choose_or_refute.new.self (c.undo_turn.ensures.turn (Some c.args.variable)) c.in_ok-refusal.ensures.turn
