use Rattle.resolvo_judge.proofs.JudgeLemmas.{claims}
use Rattle.resolvo_judge.proofs.judgement.judge_counted.Goals as goal

pub returns-in-Ok-clause-claim : goal.returns-in-Ok-clause-claim
returns-in-Ok-clause-claim g c = λ text e. claims c.args.catalogue.now c.args.request.now.lines text c.in-Ok.verdict (c.in-Ok.ensures.verdict text e)
