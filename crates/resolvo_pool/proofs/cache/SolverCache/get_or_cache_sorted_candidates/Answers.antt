use Rattle.resolvo_pool.proofs.cache.SolverCache.get_or_cache_sorted_candidates.Goals as goal

pub returns-clause-answer : goal.returns-clause-answer
returns-clause-answer g c = rw (← c.in_ok-cache_sorted_candidates.ensures.extends.provider) c.sorted_candidates.ensures.tried
