use Rattle.resolvo_judge.proofs.Accepted.{refusal_true}
use Rattle.resolvo_judge.proofs.laws.accepted_refusal_is_true.Goals as goal

pub returns : goal.returns
returns c = refusal_true
