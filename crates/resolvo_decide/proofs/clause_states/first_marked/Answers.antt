use Rattle.resolvo_decide.proofs.ColdLemmas.{only_marked}
use Rattle.resolvo_decide.proofs.clause_states.first_marked.Goals as goal

pub returns-clause-passed : goal.returns-clause-passed
returns-clause-passed c = λ i above below. only_marked c.args.marks.now i (c.first_warm.ensures.passed i above below)
