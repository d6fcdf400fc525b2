use Rattle.std.proofs.Common.{Option, subst}
use Rattle.resolvo_sat.specs.declared.analyze.FinalConflict.{FinalConflict}
use Rattle.resolvo_encoder.proofs.Bases.{turn_has, turn_then}
use Rattle.resolvo_encoder.proofs.StayLemmas.{goes_then}
use Rattle.resolvo_turn.specs.Turn.{IsBegunBy}
use Rattle.resolvo_turn.proofs.turn.begin_search.Goals as goal

pub returns-in-Some-clause-begun : goal.returns-in-Some-clause-begun
returns-in-Some-clause-begun g c = subst (λ (o : Option FinalConflict). IsBegunBy c.args.soft c.assume_first.new.encoding o) c.in-Some.is c.in_ok-refusal.ensures.begun

pub undo_falsified-requires-clause-turn : goal.undo_falsified-requires-clause-turn
undo_falsified-requires-clause-turn g c = turn_has c.args.soft c.args.encoding.now c.assume_first.new.encoding c.requires.turn c.in_ok-refusal.ensures.turn

pub undo_falsified-requires-clause-begun : goal.undo_falsified-requires-clause-begun
undo_falsified-requires-clause-begun g c = subst (λ (o : Option FinalConflict). IsBegunBy c.args.soft c.assume_first.new.encoding o) c.in_default.is c.in_ok-refusal.ensures.begun

pub assume_first-requires-2-clause-turn : goal.assume_first-requires-2-clause-turn
assume_first-requires-2-clause-turn g c =
    turn_has c.args.soft c.assume_first.new.encoding c.undo_falsified.new.encoding (turn_has c.args.soft c.args.encoding.now c.assume_first.new.encoding c.requires.turn c.in_ok-refusal.ensures.turn) c.in_ok-undo_falsified.ensures.turn

pub returns-clause-stays : goal.returns-clause-stays
returns-clause-stays g c = λ p root lawful e. c.in_ok-refusal-2.ensures.stays p root lawful (c.in_ok-undo_falsified.ensures.stays p root lawful (c.in_ok-refusal.ensures.stays p root lawful e))

pub returns-clause-goes_on : goal.returns-clause-goes_on
returns-clause-goes_on g c =
    goes_then c.args.encoding.now c.undo_falsified.new.encoding c.assume_first-2.new.encoding
    (goes_then c.args.encoding.now c.assume_first.new.encoding c.undo_falsified.new.encoding c.in_ok-refusal.ensures.goes_on c.in_ok-undo_falsified.ensures.goes_on) c.in_ok-refusal-2.ensures.goes_on

pub returns-clause-turn : goal.returns-clause-turn
returns-clause-turn g c =
    turn_then c.args.soft c.args.encoding.now c.undo_falsified.new.encoding c.assume_first-2.new.encoding
    (turn_then c.args.soft c.args.encoding.now c.assume_first.new.encoding c.undo_falsified.new.encoding c.in_ok-refusal.ensures.turn c.in_ok-undo_falsified.ensures.turn) c.in_ok-refusal-2.ensures.turn
