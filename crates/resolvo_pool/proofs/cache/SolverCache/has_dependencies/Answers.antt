use Rattle.std.proofs.Common.{◌∙◌, sym}
use Rattle.resolvo_pool.proofs.KeptLemmas.{among-lookup}
use Rattle.resolvo_pool.proofs.cache.SolverCache.has_dependencies.Goals as goal

pub returns : goal.returns
returns g c = rw (← c.self.view_is) (c.contains.ensures ∙ sym (among-lookup g.D.SolvableId.PartialEq.eq c.self.inside.dependencies c.args.solvable))
