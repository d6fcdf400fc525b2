use Rattle.std.proofs.Common.{◌∙◌, sym, ap, false}
use Rattle.std.specs.Option.{option_copied}
use Rattle.resolvo_pool.proofs.KeptLemmas.{kept_at, not_unsorted}
use Rattle.resolvo_pool.specs.Cached.{IsSortedList, same_set}
use Rattle.resolvo_pool_core.specs.Provider.{matching_in, tried_first}
use Rattle.resolvo_pool.proofs.cache.SolverCache.sorted_of_set.Goals as goal

pub unreachable-requires : goal.unreachable-requires
unreachable-requires g c =
    not_unsorted c.self.inside.sorted c.args.version_set (rw (← c.self.view_is) at c.requires) (sym c.get.ensures.value ∙ ap option_copied c.in-None.is)

pub returns-clause-kept : goal.returns-clause-kept
returns-clause-kept g c =
    rw (← c.self.view_is) (sym c.get.ensures.value ∙ ap option_copied c.in-Some.is)

pub returns-clause-tried : goal.returns-clause-tried
returns-clause-tried g c =
    rw (← c.self.view_is) (kept_at same_set (IsSortedList (g.D.DependencyProvider.sorts c.self.inside.provider) g.D.SolvableId.PartialEq.eq (tried_first (g.D.Interner.name_of_version_set c.self.inside.provider) (g.D.DependencyProvider.candidates_of c.self.inside.provider)) (matching_in (g.D.Interner.name_of_version_set c.self.inside.provider) (g.D.DependencyProvider.candidates_of c.self.inside.provider) (g.D.DependencyProvider.matches c.self.inside.provider) false)) c.self.inside.sorted c.args.version_set c.in-Some.list.now (sym c.get.ensures.value ∙ ap option_copied c.in-Some.is) c.self.invariant.3)
