use Rattle.resolvo_judge.proofs.Accepted.{install_true}
use Rattle.resolvo_judge.proofs.laws.accepted_install_is_true.Goals as goal

pub returns : goal.returns
returns c = install_true
