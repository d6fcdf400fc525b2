use Rattle.std.proofs.Common.{rules, ◌≡◌, true, List, map, subst, sym}
use Rattle.resolvo_pool_core.specs.Provider.{matching_in}
use Rattle.resolvo_packages.specs.declared.package_source.Offered.{Offered}
use Rattle.resolvo_packages.specs.PackageSource.{packages_by, offer_by, AreOutside}
use Rattle.resolvo_packages.proofs.ForbiddenLemmas.{are_outside}
use Rattle.resolvo_packages.proofs.cached_packages.CachedPackagesPackageSource.outside.Goals as goal

pub returns-clause-outside : goal.returns-clause-outside
returns-clause-outside g c =
    let provider : c.cache_non_matching_candidates.new.self.provider ≡ c.args.self.now = search rules in
    let packages = λ (q : g.row.D.Denot). packages_by g.D.Interner.name_of_solvable g.D.Interner.name_of_version_set g.D.Interner.members_of g.D.Interner.condition_of g.D.DependencyProvider.candidates_of g.D.DependencyProvider.matches g.D.DependencyProvider.dependencies_of q in
    let q = c.cache_non_matching_candidates.new.self.provider in
    let items : c.in_ok-outside.outside.items ≡ map (offer_by (g.D.Interner.name_of_solvable q)) (matching_in (g.D.Interner.name_of_version_set q) (g.D.DependencyProvider.candidates_of q) (g.D.DependencyProvider.matches q) true c.args.version_set) = search rules in
    subst (λ (x : g.row.D.Denot). AreOutside g.D.SolvableId.PartialEq.eq (packages x) c.args.version_set c.in_ok-outside.outside.items) provider
    (subst (λ (xs : List (Offered _ _)). AreOutside g.D.SolvableId.PartialEq.eq (packages q) c.args.version_set xs) (sym items)
    (are_outside g.D.SolvableId.PartialEq.eq g.met.D.SolvableId.Exact.exact (packages q) c.args.version_set))
