use Rattle.resolvo_checker.proofs.ProofTrue.{proof_forbids}
use Rattle.resolvo_judge.proofs.laws.proof_forbids.Goals as goal

pub returns : goal.returns
returns c = λ catalogue request steps entries wish n step clause proof at is b. proof_forbids catalogue request steps proof entries wish n step clause at is b
