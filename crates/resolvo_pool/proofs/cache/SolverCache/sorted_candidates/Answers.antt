use Rattle.std.proofs.Common.{sym, false, append-nil, []}
use Rattle.std.proofs.lemmas.List.Elements.{All-nil, All-cons}
use Rattle.resolvo_pool_core.specs.Provider.{matching_in, tried_first, IsTried}
use Rattle.resolvo_pool.proofs.cache.SolverCache.sorted_candidates.Goals as goal

pub returns-in-Single-clause-tried : goal.returns-in-Single-clause-tried
returns-in-Single-clause-tried g c =
    rw c.in-Single.is ((λ v. c.sorted_of_set.result.now), All-cons (λ v. IsTried (g.D.DependencyProvider.sorts c.args.self.now.provider) g.D.SolvableId.PartialEq.eq (tried_first (g.D.Interner.name_of_version_set c.args.self.now.provider) (g.D.DependencyProvider.candidates_of c.args.self.now.provider) v) (matching_in (g.D.Interner.name_of_version_set c.args.self.now.provider) (g.D.DependencyProvider.candidates_of c.args.self.now.provider) (g.D.DependencyProvider.matches c.args.self.now.provider) false v) c.sorted_of_set.result.now) c.in-Single.version_set [] c.sorted_of_set.ensures.tried (All-nil (λ v. IsTried (g.D.DependencyProvider.sorts c.args.self.now.provider) g.D.SolvableId.PartialEq.eq (tried_first (g.D.Interner.name_of_version_set c.args.self.now.provider) (g.D.DependencyProvider.candidates_of c.args.self.now.provider) v) (matching_in (g.D.Interner.name_of_version_set c.args.self.now.provider) (g.D.DependencyProvider.candidates_of c.args.self.now.provider) (g.D.DependencyProvider.matches c.args.self.now.provider) false v) c.sorted_of_set.result.now)), sym (append-nil c.sorted_of_set.result.now))

pub returns-in-Union-clause-tried : goal.returns-in-Union-clause-tried
returns-in-Union-clause-tried g c = rw c.in-Union.is c.sorted_of_union.ensures.tried
