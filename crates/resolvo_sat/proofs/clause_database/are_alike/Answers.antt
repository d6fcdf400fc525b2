use Rattle.std.proofs.Common.{sym, ◌∙◌}
use Rattle.resolvo_sat.proofs.SharedLemmas.{same_rest}
use Rattle.resolvo_sat.proofs.clause_database.are_alike.Goals as goal

pub returns : goal.returns
returns c = λ h. sym c.behind_first.ensures ∙ (same_rest c.behind_first.result.now c.behind_first-2.result.now c.eq.result c.eq.ensures h ∙ c.behind_first-2.ensures)
