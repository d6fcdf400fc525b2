use Rattle.std.proofs.Common.{List, sym, subst, rules}
use Rattle.std.specs.List.Sorted.{IsNonDecreasingBy}
use Rattle.std.proofs.lemmas.List.Sorted.{IsNonDecreasingBy-from_sort_by_key}
use Rattle.resolvo_catalogue.specs.Ids.{SolvableId}
use Rattle.resolvo_catalogue.specs.Provider.{age_of}
use Rattle.resolvo_catalogue.proofs.dependency_provider.CatalogueProviderDependencyProvider.sort_candidates.Goals as goal

pub returns-then-rise-clause-sorted : goal.returns-then-rise-clause-sorted
returns-then-rise-clause-sorted c = record {
  permutation = c.reverse.ensures.permutation;
  newest_first = subst (λ (xs : List SolvableId). IsNonDecreasingBy (age_of c.args.self.now) xs) (sym c.reverse.ensures.after) (c.rise.ensures c.if-rise.true);
}

pub returns-clause-sorted : goal.returns-clause-sorted
returns-clause-sorted c = record {
  permutation = c.in_ok-sort_by_key.ensures.permutation;
  newest_first = IsNonDecreasingBy-from_sort_by_key (age_of c.args.self.now) _ c.in_ok-sort_by_key.ensures.sorted (λ a r q k. search rules);
}
