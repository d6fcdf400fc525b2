use Rattle.resolvo_judge.proofs.ProofLaws.{refutes}
use Rattle.resolvo_judge.proofs.laws.proof_refutes.Goals as goal

pub returns : goal.returns
returns c = refutes
