use Rattle.resolvo_text.proofs.CaseLaws.{holds-cases}
use Rattle.resolvo_text.proofs.condition.cases_are_exact.Goals as goal

pub returns : goal.returns
returns c = holds-cases
