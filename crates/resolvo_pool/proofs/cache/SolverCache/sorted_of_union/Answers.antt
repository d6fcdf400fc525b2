use Rattle.std.proofs.Common.{◌∙◌, sym, ap, false}
use Rattle.std.specs.Option.{option_copied}
use Rattle.resolvo_pool.proofs.KeptLemmas.{not_absent, kept_at, sorted_at}
use Rattle.resolvo_pool.specs.Cached.{IsUnionList, same_union, sorted_of}
use Rattle.resolvo_pool_core.specs.Provider.{matching_in, tried_first, IsTried}
use Rattle.resolvo_pool.proofs.cache.SolverCache.sorted_of_union.Goals as goal

pub unreachable-requires : goal.unreachable-requires
unreachable-requires g c =
    not_absent same_union c.self.inside.unions c.args.union (rw (← c.self.view_is) at c.requires) (sym c.get.ensures.value ∙ ap option_copied c.in-None.is)

pub returns-clause-in_order : goal.returns-clause-in_order
returns-clause-in_order g c =
    let kept = kept_at same_union (IsUnionList (g.D.Interner.members_of c.self.inside.provider) c.self.inside.sorted) c.self.inside.unions c.args.union c.in-Some.list.now (sym c.get.ensures.value ∙ ap option_copied c.in-Some.is) c.self.invariant.4 in
    rw (← c.self.view_is) kept.0

pub returns-clause-tried : goal.returns-clause-tried
returns-clause-tried g c =
    let kept = kept_at same_union (IsUnionList (g.D.Interner.members_of c.self.inside.provider) c.self.inside.sorted) c.self.inside.unions c.args.union c.in-Some.list.now (sym c.get.ensures.value ∙ ap option_copied c.in-Some.is) c.self.invariant.4 in
    rw (← c.self.view_is) (sorted_of c.self.inside.sorted, (λ k d l. sorted_at (λ v xs. IsTried (g.D.DependencyProvider.sorts c.self.inside.provider) g.D.SolvableId.PartialEq.eq (tried_first (g.D.Interner.name_of_version_set c.self.inside.provider) (g.D.DependencyProvider.candidates_of c.self.inside.provider) v) (matching_in (g.D.Interner.name_of_version_set c.self.inside.provider) (g.D.DependencyProvider.candidates_of c.self.inside.provider) (g.D.DependencyProvider.matches c.self.inside.provider) false v) xs) c.self.inside.sorted _ c.self.invariant.3 (kept.1 k d l)), kept.0)
