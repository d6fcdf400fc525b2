use Rattle.std.proofs.Common.{ap, refl, false}
use Rattle.std.specs.Option.{is_some}
use Rattle.resolvo_pool.proofs.KeptLemmas.{kept_more, kept_weaker, same_set_exact, sorted_stays, union_stays}
use Rattle.resolvo_pool.specs.Cached.{IsSortedList, IsUnionList, same_set, same_union}
use Rattle.resolvo_pool_core.specs.Provider.{matching_in, tried_first}
use Rattle.resolvo_pool.proofs.cache.SolverCache.keep_sorted.Goals as goal

pub invariant_of-self-2 : goal.invariant_of-self-2
invariant_of-self-2 g c =
    let absent = rw (← c.self.view_is) at c.requires.fresh in
    (c.self.invariant.0, c.self.invariant.1, c.self.invariant.2, kept_more same_set c.self.inside.sorted c.put.new.self c.args.version_set c.as_slice.result.now c.in_ok-put.ensures.put (IsSortedList (g.D.DependencyProvider.sorts c.self.inside.provider) g.D.SolvableId.PartialEq.eq (tried_first (g.D.Interner.name_of_version_set c.self.inside.provider) (g.D.DependencyProvider.candidates_of c.self.inside.provider)) (matching_in (g.D.Interner.name_of_version_set c.self.inside.provider) (g.D.DependencyProvider.candidates_of c.self.inside.provider) (g.D.DependencyProvider.matches c.self.inside.provider) false)) (same_set_exact c.args.version_set) (rw c.as_slice.ensures.value (rw (← c.self.view_is) at c.in_ok-list.ensures.tried)) c.self.invariant.3, kept_weaker same_union (IsUnionList (g.D.Interner.members_of c.self.inside.provider) c.self.inside.sorted) (IsUnionList (g.D.Interner.members_of c.self.inside.provider) c.put.new.self) c.self.inside.unions (union_stays c.self.inside.sorted c.put.new.self c.args.version_set c.as_slice.result.now absent c.in_ok-put.ensures.put (g.D.Interner.members_of c.self.inside.provider)) c.self.invariant.4, c.self.invariant.5, c.self.invariant.6)

pub returns-clause-there : goal.returns-clause-there
returns-clause-there g c = ap is_some c.in_ok-put.ensures.found

pub returns-clause-extends : goal.returns-clause-extends
returns-clause-extends g c =
    let absent = rw (← c.self.view_is) at c.requires.fresh in
    rw (← c.self.view_is) (record { provider = refl; names = λ n h. h; matching = λ v h. h; non_matching = λ v h. h; sorted = sorted_stays c.self.inside.sorted c.put.new.self c.args.version_set c.as_slice.result.now absent c.in_ok-put.ensures.put; unions = λ u h. h; solvables = λ s h. h })

pub returns-clause-only : goal.returns-clause-only
returns-clause-only g c =
    rw (← c.self.view_is) (record { provider = refl; non_matching = refl; unions = refl; solvables = refl })

pub put-requires : goal.put-requires
put-requires g c = rw (← c.self.view_is) at c.requires.fresh
