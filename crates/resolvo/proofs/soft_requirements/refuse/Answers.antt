use Rattle.std.proofs.Common.{refl}
use Rattle.resolvo.proofs.Outcomes.{undone_addable, undone_untaken, refuse_rest, refuse_rejected}
use Rattle.resolvo.proofs.soft_requirements.refuse.Goals as goal

pub learn_refusal-requires-clause-forbid : goal.learn_refusal-requires-clause-forbid
learn_refusal-requires-clause-forbid g c = undone_addable c.args.encoding.now c.undo_turn.new.self c.undo_turn.ensures.undone c.undo_turn.ensures.turn c.args.refusal c.requires.refused

pub drop_soft-requires-clause-untaken : goal.drop_soft-requires-clause-untaken
drop_soft-requires-clause-untaken g c =
    undone_untaken c.args.encoding.now c.undo_turn.new.self c.undo_turn.ensures.undone c.undo_turn.ensures.turn c.undo_turn.ensures.goes_on c.learn_refusal.new.self c.in_ok-clause.ensures.goes_on _ _ c.in_ok-clause.clause c.in_ok-clause.ensures.learnt c.args.refusal c.requires.refused

pub returns-clause-stays : goal.returns-clause-stays
returns-clause-stays g c = λ p root lawful e. c.drop_soft.ensures.encoding p root lawful (c.in_ok-clause.ensures.stays p root lawful (c.undo_turn.ensures.stays p root lawful e))

pub returns-clause-rest : goal.returns-clause-rest
returns-clause-rest g c =
    refuse_rest c.args.encoding.now c.undo_turn.new.self c.undo_turn.ensures.undone c.undo_turn.ensures.turn c.undo_turn.ensures.goes_on c.learn_refusal.new.self c.in_ok-clause.ensures.goes_on _ _ c.in_ok-clause.clause c.in_ok-clause.ensures.learnt g.S.PartialEq.eq c.drop_soft.new.self c.drop_soft.ensures

pub returns-clause-refused : goal.returns-clause-refused
returns-clause-refused g c =
    refuse_rejected c.args.encoding.now c.undo_turn.new.self c.undo_turn.ensures.undone c.undo_turn.ensures.turn c.undo_turn.ensures.goes_on c.learn_refusal.new.self c.in_ok-clause.ensures.goes_on _ _ c.in_ok-clause.clause c.in_ok-clause.ensures.learnt g.S.PartialEq.eq c.drop_soft.new.self c.drop_soft.ensures c.undo_turn.ensures.built.coding c.args.refusal refl c.requires.refused
