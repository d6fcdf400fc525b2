use Rattle.std.proofs.Common.{refl, sym, ◌∙◌}
use Rattle.resolvo_pool.proofs.KeptLemmas.{among-lookup, among_found, among_more, kept_more}
use Rattle.resolvo_pool.specs.Cached.{IsNeeds}
use Rattle.resolvo_pool.proofs.cache.SolverCache.put_dependencies.Goals as goal

pub invariant_of-self-2 : goal.invariant_of-self-2
invariant_of-self-2 g c =
    (c.self.invariant.0, c.self.invariant.1, c.self.invariant.2, c.self.invariant.3, c.self.invariant.4, kept_more g.D.SolvableId.PartialEq.eq c.self.inside.dependencies c.put.new.self c.args.solvable c.args.found c.in_ok-put.ensures.put (IsNeeds (g.D.DependencyProvider.dependencies_of c.self.inside.provider)) (g.met.D.SolvableId.Exact.exact c.args.solvable) (rw (← c.self.view_is) at c.requires.asked) c.self.invariant.5, c.self.invariant.6)

pub returns-clause-there : goal.returns-clause-there
returns-clause-there g c = among_found g.D.SolvableId.PartialEq.eq c.put.new.self c.args.solvable _ c.in_ok-put.ensures.found

pub returns-clause-extends : goal.returns-clause-extends
returns-clause-extends g c =
    rw (← c.self.view_is) (record { provider = refl; names = λ n h. h; matching = λ v h. h; non_matching = λ v h. h; sorted = λ v xs h. h; unions = λ u h. h; solvables = among_more g.D.SolvableId.PartialEq.eq c.self.inside.dependencies c.put.new.self c.args.solvable _ c.in_ok-put.ensures.put })

pub put-requires : goal.put-requires
put-requires g c = sym (among-lookup g.D.SolvableId.PartialEq.eq c.self.inside.dependencies c.args.solvable) ∙ (rw (← c.self.view_is) at c.requires.fresh)
