use Rattle.resolvo_turn.proofs.turn.fire.Goals as goal

pub returns-then-not-branch-clause-spent : goal.returns-then-not-branch-clause-spent
returns-then-not-branch-clause-spent g c = λ none. c.in_ok-fire_cases.ensures.spent c.if-not-branch.true
