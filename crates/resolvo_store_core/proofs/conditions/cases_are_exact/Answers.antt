use Rattle.resolvo_store_core.proofs.CaseLaws.{exact_cases}
use Rattle.resolvo_store_core.proofs.conditions.cases_are_exact.Goals as goal

pub returns : goal.returns
returns g c = exact_cases (g.I.Interner.condition_of c.args.interner.now)
