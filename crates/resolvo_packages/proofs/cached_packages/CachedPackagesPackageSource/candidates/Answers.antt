use Rattle.std.proofs.Common.{rules, ◌≡◌, ◌∙◌, ap, subst, sym, List, map}
use Rattle.resolvo_packages.specs.declared.package_source.Offered.{Offered}
use Rattle.resolvo_packages.specs.PackageSource.{packages_by, orders_by, offer_by, offered_solvables, AreOffered}
use Rattle.resolvo_packages.proofs.OfferLemmas.{are_offered, offered_back}
use Rattle.resolvo_packages.proofs.cached_packages.CachedPackagesPackageSource.candidates.Goals as goal

pub returns-clause-offered : goal.returns-clause-offered
returns-clause-offered g c =
    let provider : c.cache_sorted_candidates.new.self.provider ≡ c.args.self.now = search rules in
    let items : c.in_ok-offered.offered.items ≡ map (offer_by (g.D.Interner.name_of_solvable c.cache_sorted_candidates.new.self.provider)) c.sorted_candidates.result.now = search rules in
    let packages = λ (q : g.row.D.Denot). packages_by g.D.Interner.name_of_solvable g.D.Interner.name_of_version_set g.D.Interner.members_of g.D.Interner.condition_of g.D.DependencyProvider.candidates_of g.D.DependencyProvider.matches g.D.DependencyProvider.dependencies_of q in
    let q = c.cache_sorted_candidates.new.self.provider in
    subst (λ (x : g.row.D.Denot). AreOffered g.D.SolvableId.PartialEq.eq (packages x) c.args.requirement c.in_ok-offered.offered.items) provider
    (subst (λ (xs : List (Offered _ _)). AreOffered g.D.SolvableId.PartialEq.eq (packages q) c.args.requirement xs) (sym items)
    (are_offered g.D.SolvableId.PartialEq.eq g.met.D.SolvableId.Exact.exact (packages q) (g.D.DependencyProvider.sorts q) (g.met.D.DependencyProvider.sorts_permute q) c.args.requirement c.sorted_candidates.result.now c.sorted_candidates.ensures.tried))

pub returns-clause-ordered : goal.returns-clause-ordered
returns-clause-ordered g c =
    let provider : c.cache_sorted_candidates.new.self.provider ≡ c.args.self.now = search rules in
    let items : c.in_ok-offered.offered.items ≡ map (offer_by (g.D.Interner.name_of_solvable c.cache_sorted_candidates.new.self.provider)) c.sorted_candidates.result.now = search rules in
    let q = c.cache_sorted_candidates.new.self.provider in
    let back : offered_solvables c.in_ok-offered.offered.items ≡ c.sorted_candidates.result.now = ap (λ (xs : List (Offered _ _)). offered_solvables xs) items ∙ offered_back (g.D.Interner.name_of_solvable q) c.sorted_candidates.result.now in
    subst (λ (x : g.row.D.Denot). orders_by g.D.Interner.name_of_version_set g.D.Interner.members_of g.D.DependencyProvider.candidates_of g.D.DependencyProvider.matches g.D.DependencyProvider.sorts g.D.SolvableId.PartialEq.eq x c.args.requirement (offered_solvables c.in_ok-offered.offered.items)) provider
    (subst (λ (xs : List _). orders_by g.D.Interner.name_of_version_set g.D.Interner.members_of g.D.DependencyProvider.candidates_of g.D.DependencyProvider.matches g.D.DependencyProvider.sorts g.D.SolvableId.PartialEq.eq q c.args.requirement xs) (sym back) c.sorted_candidates.ensures.tried)
