use Rattle.std.proofs.Common.{◌∙◌, sym}
use Rattle.resolvo_pool.proofs.KeptLemmas.{among-lookup}
use Rattle.resolvo_pool.specs.Cached.{same_set}
use Rattle.resolvo_pool.proofs.cache.SolverCache.has_matching_candidates.Goals as goal

pub returns : goal.returns
returns g c = rw (← c.self.view_is) (c.contains.ensures ∙ sym (among-lookup same_set c.self.inside.matching c.args.version_set))
