use Rattle.std.proofs.Common.{rules, ◌≡◌, ◌∙◌, subst, sym, List}
use Rattle.resolvo_pool_core.specs.declared.requirement.Requirement.TheVariants.{Single}
use Rattle.resolvo_packages.specs.PackageSource.{packages_by, AreMatching}
use Rattle.resolvo_packages.proofs.OfferLemmas.{are_offered, offered_back}
use Rattle.resolvo_packages.proofs.cached_packages.CachedPackagesPackageSource.matching.Goals as goal

pub returns-clause-matching : goal.returns-clause-matching
returns-clause-matching g c =
    let provider : c.cache_sorted_candidates.new.self.provider ≡ c.args.self.now = search rules in
    let items : c.in_ok-matching.matching.items ≡ c.sorted_candidates.result.now = search rules in
    let packages = λ (q : g.row.D.Denot). packages_by g.D.Interner.name_of_solvable g.D.Interner.name_of_version_set g.D.Interner.members_of g.D.Interner.condition_of g.D.DependencyProvider.candidates_of g.D.DependencyProvider.matches g.D.DependencyProvider.dependencies_of q in
    let q = c.cache_sorted_candidates.new.self.provider in
    let same = g.D.SolvableId.PartialEq.eq in
    let offered = are_offered same g.met.D.SolvableId.Exact.exact (packages q) (g.D.DependencyProvider.sorts q) (g.met.D.DependencyProvider.sorts_permute q) (Single c.args.version_set) c.sorted_candidates.result.now c.sorted_candidates.ensures.tried in
    subst (λ (x : g.row.D.Denot). AreMatching same (packages x) c.args.version_set c.in_ok-matching.matching.items) provider
    (subst (λ (xs : List _). AreMatching same (packages q) c.args.version_set xs) (offered_back (g.D.Interner.name_of_solvable q) c.sorted_candidates.result.now ∙ sym items) offered.matches)
