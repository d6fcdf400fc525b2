use Rattle.std.proofs.Common.{refl, sym, ◌∙◌, false}
use Rattle.resolvo_pool.proofs.KeptLemmas.{among-lookup, among_found, among_more, kept_more, same_set_exact}
use Rattle.resolvo_pool.specs.Cached.{IsList, same_set}
use Rattle.resolvo_pool_core.specs.Provider.{matching_in}
use Rattle.resolvo_pool.proofs.cache.SolverCache.keep_matching.Goals as goal

pub invariant_of-self-2 : goal.invariant_of-self-2
invariant_of-self-2 g c =
    (c.self.invariant.0, kept_more same_set c.self.inside.matching c.put.new.self c.args.version_set c.as_slice.result.now c.in_ok-put.ensures.put (IsList (matching_in (g.D.Interner.name_of_version_set c.self.inside.provider) (g.D.DependencyProvider.candidates_of c.self.inside.provider) (g.D.DependencyProvider.matches c.self.inside.provider) false)) (same_set_exact c.args.version_set) (c.as_slice.ensures.value ∙ (rw (← c.self.view_is) at c.in_ok-found.ensures.filtered)) c.self.invariant.1, c.self.invariant.2, c.self.invariant.3, c.self.invariant.4, c.self.invariant.5, c.self.invariant.6)

pub returns-clause-there : goal.returns-clause-there
returns-clause-there g c = among_found same_set c.put.new.self c.args.version_set _ c.in_ok-put.ensures.found

pub returns-clause-extends : goal.returns-clause-extends
returns-clause-extends g c =
    rw (← c.self.view_is) (record { provider = refl; names = λ n h. h; matching = among_more same_set c.self.inside.matching c.put.new.self c.args.version_set _ c.in_ok-put.ensures.put; non_matching = λ v h. h; sorted = λ v xs h. h; unions = λ u h. h; solvables = λ s h. h })

pub returns-clause-only : goal.returns-clause-only
returns-clause-only g c =
    rw (← c.self.view_is) (record { provider = refl; non_matching = refl; sorted = refl; unions = refl; solvables = refl })

pub put-requires : goal.put-requires
put-requires g c = sym (among-lookup same_set c.self.inside.matching c.args.version_set) ∙ (rw (← c.self.view_is) at c.requires.fresh)
