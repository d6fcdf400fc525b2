use Rattle.std.proofs.Common.{rules, ◌≡◌, List, subst, sym}
use Rattle.resolvo_pool_core.specs.Provider.{listing_or_empty}
use Rattle.resolvo_packages.specs.declared.package_source.ForbiddenSolvable.{ForbiddenSolvable}
use Rattle.resolvo_packages.specs.PackageSource.{packages_by}
use Rattle.resolvo_packages.specs.Forbidden.{AreForbidden, kept_out}
use Rattle.resolvo_packages.proofs.ForbiddenLemmas.{are_forbidden}
use Rattle.resolvo_packages.proofs.cached_packages.CachedPackagesPackageSource.forbidden.Goals as goal

pub returns-clause-forbidden : goal.returns-clause-forbidden
returns-clause-forbidden g c =
    let provider : c.cache_candidates.new.self.provider ≡ c.args.self.now = search rules in
    let packages = λ (q : g.row.D.Denot). packages_by g.D.Interner.name_of_solvable g.D.Interner.name_of_version_set g.D.Interner.members_of g.D.Interner.condition_of g.D.DependencyProvider.candidates_of g.D.DependencyProvider.matches g.D.DependencyProvider.dependencies_of q in
    let q = c.cache_candidates.new.self.provider in
    let items : c.in_ok-forbidden.forbidden.items ≡ kept_out g.D.SolvableId.PartialEq.eq (listing_or_empty (g.D.DependencyProvider.candidates_of q c.args.name)) = search rules in
    subst (λ (x : g.row.D.Denot). AreForbidden g.D.SolvableId.PartialEq.eq (packages x) c.args.name c.in_ok-forbidden.forbidden.items) provider
    (subst (λ (xs : List (ForbiddenSolvable _)). AreForbidden g.D.SolvableId.PartialEq.eq (packages q) c.args.name xs) (sym items)
    (are_forbidden g.D.SolvableId.PartialEq.eq g.met.D.SolvableId.Exact.exact (packages q) (record { below = g.met.D.Interner.operands_below q; named = g.met.D.DependencyProvider.candidates_named q }) c.args.name))
