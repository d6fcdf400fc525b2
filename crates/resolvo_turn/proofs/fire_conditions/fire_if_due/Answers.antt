use Rattle.resolvo_turn.proofs.fire_conditions.fire_if_due.Goals as goal

pub fire-requires-clause-met : goal.fire-requires-clause-met
fire-requires-clause-met g c = c.is_due.ensures.met c.if-not-is_due.false
