use Rattle.resolvo.proofs.prove.prove.Goals as goal

pub returns-clause-steps : goal.returns-clause-steps
returns-clause-steps g c = c.in_ok-proof.ensures.steps
