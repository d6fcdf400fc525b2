use Rattle.std.proofs.Common.{◌∙◌, sym}
use Rattle.resolvo_pool.proofs.KeptLemmas.{among-lookup}
use Rattle.resolvo_pool.specs.Cached.{same_union}
use Rattle.resolvo_pool.proofs.cache.SolverCache.has_sorted_candidates.Goals as goal

pub returns-in-Single : goal.returns-in-Single
returns-in-Single g c =
    rw (← c.self.view_is, c.in-Single.is) c.contains.ensures

pub returns-in-Union : goal.returns-in-Union
returns-in-Union g c =
    rw (← c.self.view_is, c.in-Union.is) (c.contains-in-Union.ensures ∙ sym (among-lookup same_union c.self.inside.unions c.in-Union.union))
