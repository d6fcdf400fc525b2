use Rattle.resolvo_decide.proofs.ColdLemmas.{bit_nil}
use Rattle.resolvo_decide.proofs.cold_clauses.ColdClauses.warm.Goals as goal

pub returns-else-self : goal.returns-else-self
returns-else-self g c = λ i none. absurd (bit_nil i none)
