use Rattle.resolvo_judge.proofs.ProofLaws.{true_in}
use Rattle.resolvo_judge.proofs.laws.steps_are_true.Goals as goal

pub returns : goal.returns
returns c = true_in
