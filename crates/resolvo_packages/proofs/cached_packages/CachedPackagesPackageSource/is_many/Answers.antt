use Rattle.std.proofs.Common.{rules, ◌≡◌, ◌∙◌, ap}
use Rattle.resolvo_pool_core.specs.Provider.{Listing, listing_or_empty}
use Rattle.resolvo_packages.proofs.cached_packages.CachedPackagesPackageSource.is_many.Goals as goal

pub returns-clause-mark : goal.returns-clause-mark
returns-clause-mark g c =
    let provider : c.cache_candidates.new.self.provider ≡ c.args.self.now = search rules in
    ap (λ (l : Listing _). l.many) c.candidates.ensures ∙ ap (λ (x : g.row.D.Denot). (listing_or_empty (g.D.DependencyProvider.candidates_of x c.args.name)).many) provider
